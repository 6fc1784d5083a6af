use Rattle.std.proofs.Common.{◌^◌, arith, refl}
use Rattle.std.proofs.lemmas.Int.{to_z-of_z}
use Rattle.time_space.proofs.Fits.{times_fits, times_size}
use Rattle.time_space.proofs.limits.ratio_product.Goals as goal

pub overflow_mul-result : goal.overflow_mul-result
overflow_mul-result c =
    simp (to_z-of_z, c.ranges.rest, c.ranges.number)
    (times_fits c.args.rest c.args.number (2 ^ 17) (2 ^ 17) c.requires.rest c.requires.number (omega arith))

pub returns-clause-value : goal.returns-clause-value
returns-clause-value c =
    simp (to_z-of_z, c.ranges.rest, c.ranges.number, times_fits c.args.rest c.args.number (2 ^ 17) (2 ^ 17) c.requires.rest c.requires.number (omega arith)) refl

pub returns-clause-small : goal.returns-clause-small
returns-clause-small c =
    simp (to_z-of_z, c.ranges.rest, c.ranges.number, times_fits c.args.rest c.args.number (2 ^ 17) (2 ^ 17) c.requires.rest c.requires.number (omega arith))
    (times_size c.args.rest c.args.number (2 ^ 17) (2 ^ 17) c.requires.rest c.requires.number)
