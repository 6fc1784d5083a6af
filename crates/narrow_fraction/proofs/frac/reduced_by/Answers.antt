use Rattle.std.proofs.Common.{SFits}
use Rattle.std.specs.Int.{w128}
use Rattle.std.proofs.lemmas.Int.{to_z-of_z}
use Rattle.rational_theory.specs.laws.Fractions.{part_pos, parts_reduced, gcd_pos}
use Rattle.narrow_fraction.proofs.Parts.{over-parts}
use Rattle.narrow_fraction.proofs.frac.reduced_by.Goals as goal

pub divided-requires : goal.divided-requires
divided-requires c = rw c.requires.divisor (gcd_pos _ _ c.requires.above)

pub divided-requires-2 : goal.divided-requires-2
divided-requires-2 c = rw c.requires.divisor (gcd_pos _ _ c.requires.above)

pub lowest-requires-clause-above : goal.lowest-requires-clause-above
lowest-requires-clause-above c = rw (c.divided-2.ensures, c.requires.divisor) (part_pos _ _ c.requires.above)

pub lowest-requires-clause-reduced : goal.lowest-requires-clause-reduced
lowest-requires-clause-reduced c =
    let n : SFits w128 c.args.top = c.ranges.top in
    simp (c.divided.ensures, c.divided-2.ensures, c.unsigned_abs.ensures.value, c.requires.divisor, to_z-of_z) (parts_reduced _ _ c.requires.above)

pub returns : goal.returns
returns c =
    let n : SFits w128 c.args.top = c.ranges.top in
    simp (to_z-of_z, c.divided.ensures, c.divided-2.ensures, c.requires.divisor, c.unsigned_abs.ensures.value, over-parts c.args.top c.args.bottom c.requires.above) at c.lowest.ensures
