-- What is promised of a box's vertices.
use Rattle.std.specs.Prelude.{◌≡◌, ℕ, List, true, false}
use Rattle.rational_theory.specs.Rational.{ℚ}
use Rattle.rational_theory.specs.Floor.{floor_ℚ}
use Rattle.progression.specs.Street.{Street, HasSignal, HasLink}
use Rattle.progression.specs.Good.{Good}
use Rattle.progression.specs.Best.{weighted_band}
use Rattle.linear_theory.specs.Blocks.{block_sum}
use Rattle.linear_theory.specs.Boxes.{Area, IsBoxOf, IsLoopPlace, IsTurnPlace}
use Rattle.linear_theory.specs.Counts.{IsStreet}
use Rattle.recovery_theory.specs.Placing.{timing_of}
use Rattle.recovery_theory.specs.Vertices.{IsVertex, IsLongVertex, IsWhole, goal_at}
use Rattle.recovery_theory.specs.Splitting.{is_whole_number, is_ranked, rank_below}

-- of points that are vertices
pub record Recovers (IsPoint : Street → Area → List ℚ → Type 0) : Type 0 where
  -- where all block sums are whole and all shifts are the signals', the timing is good, and its band is the vertex's
  pub good : (a : Street) (box : Area) (x : List ℚ) → IsStreet a → IsPoint a box x → IsWhole a x → Good a (timing_of a x)
  pub band : (a : Street) (box : Area) (x : List ℚ) → IsStreet a → IsPoint a box x → IsWhole a x → weighted_band a (timing_of a x) ≡ goal_at a x
  -- elsewhere the box is split at a place inside it
  pub loops : (a : Street) (box : Area) (x : List ℚ) (i : ℕ) → IsStreet a → IsBoxOf a box → IsPoint a box x → HasLink a i → is_whole_number (block_sum a x i) ≡ false → IsLoopPlace box i (floor_ℚ (block_sum a x i))
  pub turns : (a : Street) (box : Area) (x : List ℚ) (i : ℕ) → IsStreet a → IsBoxOf a box → IsPoint a box x → HasSignal a i → is_ranked a box x i ≡ false → IsTurnPlace box i (rank_below a x i)
  -- and the two tests decide it
  pub whole : (a : Street) (box : Area) (x : List ℚ) → IsBoxOf a box → ((i : ℕ) → HasLink a i → is_whole_number (block_sum a x i) ≡ true) → ((i : ℕ) → HasSignal a i → is_ranked a box x i ≡ true) → IsWhole a x

abbrev pub VerticesRecover : Type 0
VerticesRecover = Recovers IsVertex

-- the ticks of a part make all columns whole, so it holds with further columns as well
abbrev pub LongVerticesRecover : Type 0
LongVerticesRecover = Recovers IsLongVertex
