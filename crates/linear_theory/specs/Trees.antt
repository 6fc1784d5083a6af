-- Trees of boxes: at each split a box and its two parts, at each leaf something that is said of its box, as a sum of rows.
use Rattle.std.specs.Prelude.{ℕ, ℤ, List, [], ◌∷◌, map}
use Rattle.rational_theory.specs.Rational.{ℚ, ◌≤ℚ◌}
use Rattle.rational_theory.specs.Rows as maths
use Rattle.progression.specs.Street.{Street}
use Rattle.progression.specs.Speeds.{number}
use Rattle.linear_theory.specs.Boxes.{Area, low_loop, high_loop, low_turn, high_turn, IsLoopPlace, IsTurnPlace}
use Rattle.linear_theory.specs.Rows.{line}
use Rattle.linear_theory.specs.Names.{Name, HasRow, form_of}

-- ---- trees of any leaves
-- a leaf, or a split at a place of a link's span or of a signal's ranks, with its low and its high part
pub data BoxTree (L : Type 0) : Type 0 where
  LeafOf : L → BoxTree L
  LoopSplit : ℕ → ℤ → BoxTree L → BoxTree L → BoxTree L
  TurnSplit : ℕ → ℕ → BoxTree L → BoxTree L → BoxTree L

-- P holds of each leaf and its box, and each split's place lies in its box
abbrev pub AcceptedBy : {L : Type 0} → (Area → L → Type 0) → Area → BoxTree L → Type 0
AcceptedBy P box (LeafOf l) = P box l
AcceptedBy P box (LoopSplit i at low high) = IsLoopPlace box i at × AcceptedBy P (low_loop box i at) low × AcceptedBy P (high_loop box i at) high
AcceptedBy P box (TurnSplit i rank low high) = IsTurnPlace box i rank × AcceptedBy P (low_turn box i rank) low × AcceptedBy P (high_turn box i rank) high

-- ---- sums of rows of any names
-- the rows that the names stand for, each times its multiplier
abbrev pub sum_of_rows : {N : Type 0} → (N → maths.Row) → List (ℚ × N) → maths.Row
sum_of_rows row ws = maths.combine (map (λ w. w.0) ws) (map (λ w. row w.1) ws)

-- the rows are there, and no multiplier is negative
abbrev pub AreMultipliers : {N : Type 0} → (N → Type 0) → List (ℚ × N) → Type 0
AreMultipliers has [] = Unit {0}
AreMultipliers has (w ∷ ws) = has w.1 × (number 0 ≤ℚ w.0) × AreMultipliers has ws

-- ---- those of an artery's rows
-- a multiplier, and the row that it is for
abbrev pub Weight : Type 0
Weight = ℚ × Name

abbrev pub Tree : Type 0
Tree = BoxTree (List Weight)

-- the sum of a leaf's rows, each times its multiplier
abbrev pub leaf_sum : Street → Area → List Weight → maths.Row
leaf_sum a box ws = sum_of_rows (λ n. line a (form_of a box n)) ws

-- the artery has the rows, and no multiplier is negative
abbrev pub AreWeights : Street → List Weight → Type 0
AreWeights a ws = AreMultipliers (HasRow a) ws

-- P holds of each leaf's sum, and each split's place lies in its box
abbrev pub Accepted : (maths.Row → Type 0) → Street → Area → Tree → Type 0
Accepted P a box tree = AcceptedBy (λ b ws. AreWeights a ws × P (leaf_sum a b ws)) box tree
