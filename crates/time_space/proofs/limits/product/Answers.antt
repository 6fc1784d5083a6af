use Rattle.std.proofs.Common.{pos, ◌^◌, arith, refl}
use Rattle.std.proofs.lemmas.Int.{to_z-of_z}
use Rattle.time_space.proofs.Fits.{natural_fits, times_fits}
use Rattle.time_space.proofs.limits.product.Goals as goal

pub overflow_cast-result : goal.overflow_cast-result
overflow_cast-result c = natural_fits c.args.count (omega arith)

pub overflow_mul-result : goal.overflow_mul-result
overflow_mul-result c =
    simp (to_z-of_z, c.ranges.number, natural_fits c.args.count (omega arith))
    (times_fits c.args.number (pos c.args.count) (2 ^ 34) (2 ^ 92) c.requires.number c.requires.count (omega arith))

pub returns : goal.returns
returns c =
    simp (
      to_z-of_z,
      c.ranges.number,
      natural_fits c.args.count (omega arith),
      times_fits c.args.number (pos c.args.count) (2 ^ 34) (2 ^ 92) c.requires.number c.requires.count (omega arith),
    ) refl
