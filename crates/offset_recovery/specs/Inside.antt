-- Vertices that split their boxes inside: what is asked of one whose place is looked for.
use Rattle.std.specs.Prelude.{◌≡◌, ◌≤◌, ℕ, List, length, false}
use Rattle.rational_theory.specs.Rational.{ℚ}
use Rattle.rational_theory.specs.Floor.{floor_ℚ}
use Rattle.progression.specs.Street.{Street, count, HasSignal, HasLink}
use Rattle.linear_theory.specs.Places.{width}
use Rattle.linear_theory.specs.Blocks.{block_sum}
use Rattle.linear_theory.specs.Boxes.{Area, IsLoopPlace, IsTurnPlace}
use Rattle.recovery_theory.specs.Splitting.{is_whole_number, is_ranked, rank_below}

-- it has the artery's columns; a block sum that is not whole lies within its link's span, and a shift of no rank of the box
-- between two of them
pub record SplitsInside (a : Street) (box : Area) (x : List ℚ) : Type 0 where
  pub columns : width (count a) ≤ length x
  pub loops : (i : ℕ) → HasLink a i → is_whole_number (block_sum a x i) ≡ false → IsLoopPlace box i (floor_ℚ (block_sum a x i))
  pub turns : (i : ℕ) → HasSignal a i → is_ranked a box x i ≡ false → IsTurnPlace box i (rank_below a x i)
