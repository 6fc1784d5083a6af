use Rattle.std.proofs.Common.{pos, ◌^◌, arith, refl}
use Rattle.std.proofs.lemmas.Int.{to_z-of_z}
use Rattle.time_space.proofs.Fits.{natural_fits, times_fits}
use Rattle.time_space.proofs.limits.scaled.Goals as goal

pub overflow_cast-result : goal.overflow_cast-result
overflow_cast-result c = natural_fits c.args.den (omega arith)

pub overflow_mul-result : goal.overflow_mul-result
overflow_mul-result c =
    simp (to_z-of_z, c.ranges.change, natural_fits c.args.den (omega arith))
    (times_fits c.args.change (pos c.args.den) (2 ^ 95) 5280001 c.requires.change (omega arith) (omega arith))

pub returns : goal.returns
returns c =
    simp (
      to_z-of_z,
      c.ranges.change,
      natural_fits c.args.den (omega arith),
      times_fits c.args.change (pos c.args.den) (2 ^ 95) 5280001 c.requires.change (omega arith) (omega arith),
    ) refl
