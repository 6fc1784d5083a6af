use Rattle.std.proofs.Common.{pos, ◌^◌, arith, refl}
use Rattle.std.proofs.lemmas.Int.{to_z-of_z}
use Rattle.time_space.proofs.Fits.{natural_fits, times_fits}
use Rattle.time_space.proofs.limits.limit_product.Goals as goal

pub overflow_cast-result : goal.overflow_cast-result
overflow_cast-result c = natural_fits c.args.factor (omega arith)

pub overflow_mul-result : goal.overflow_mul-result
overflow_mul-result c =
    simp (to_z-of_z, c.ranges.number, natural_fits c.args.factor (omega arith))
    (times_fits c.args.number (pos c.args.factor) 100001 (2 ^ 110) (omega arith) c.requires.factor (omega arith))

pub returns : goal.returns
returns c =
    simp (
      to_z-of_z,
      c.ranges.number,
      natural_fits c.args.factor (omega arith),
      times_fits c.args.number (pos c.args.factor) 100001 (2 ^ 110) (omega arith) c.requires.factor (omega arith),
    ) refl
