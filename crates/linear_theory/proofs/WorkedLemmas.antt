-- The worked boxes, computed.
use Rattle.std.proofs.Common.{refl}
use Rattle.rational_theory.specs.Rational.{whole, over, inverse_ℚ, neg_ℚ, ◌+ℚ◌, ◌*ℚ◌}
use Rattle.rational_theory.specs.Gcd.{gcd}
use Rattle.rational_theory.specs.Floor.{floor_ℚ, ceil_ℚ}
use Rattle.rational_theory.proofs.Arithmetic.{same_cross}
use Rattle.linear_theory.specs.Worked.{WorkedBoxes}

pub worked_boxes : WorkedBoxes
unfolding whole over inverse_ℚ neg_ℚ ◌+ℚ◌ ◌*ℚ◌ gcd floor_ℚ ceil_ℚ
worked_boxes = record {
  half_a_cycle_apart = same_cross _ _ refl;
  a_quarter_apart = refl;
  far_apart = refl;
  too_much_red = refl;
  with_both_lefts = refl;
  one_shift = refl;
  three_shifts = refl;
  their_ranks = refl;
}
