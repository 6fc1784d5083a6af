use Rattle.std.proofs.Common.{pos, ◌*ℤ◌, arith}
use Rattle.std.specs.Int.{w128}
use Rattle.std.proofs.lemmas.Int.{to_z-of_z, fits_signed_from_abs}
use Rattle.loop_rows.proofs.WholeParts.{whole_small, whole_wide, whole_made, whole_fits}
use Rattle.loop_rows.proofs.numbers.whole_parts.Goals as goal

pub overflow_cast-result : goal.overflow_cast-result
overflow_cast-result c = whole_wide c.args.number c.args.parts c.ranges.number c.requires

pub overflow_cast-result-2 : goal.overflow_cast-result-2
overflow_cast-result-2 c = fits_signed_from_abs w128 (pos c.args.parts) (omega (arith, c.requires))

pub overflow_mul-result : goal.overflow_mul-result
overflow_mul-result c = rw (whole_made c.args.number c.args.parts c.ranges.number c.requires) (whole_fits c.args.number c.args.parts c.ranges.number c.requires)

pub returns-clause-value : goal.returns-clause-value
returns-clause-value c =
    rw (whole_made c.args.number c.args.parts c.ranges.number c.requires) (to_z-of_z w128 _ (whole_fits c.args.number c.args.parts c.ranges.number c.requires))

pub returns-clause-small : goal.returns-clause-small
returns-clause-small c =
    rw (whole_made c.args.number c.args.parts c.ranges.number c.requires, to_z-of_z w128 (c.args.number *ℤ pos c.args.parts) (whole_fits c.args.number c.args.parts c.ranges.number c.requires))
    (whole_small c.args.number c.args.parts c.ranges.number c.requires)
