-- What the search knows of a relaxation: timings of type T, what a split node keeps for its parts of type K, refused operations of type W.
use Rattle.std.specs.Prelude.{◌≡◌, ℕ}
use Rattle.rational_theory.specs.Rational.{ℚ, ◌≤ℚ◌}
use Rattle.linear_theory.specs.Boxes.{Area}
use Rattle.search_box.specs.declared.span.At.{At}
use Rattle.search_box.specs.Places.{IsPlace}
use Rattle.named_row.specs.declared.leaves.Leaf.{Leaf}
use Rattle.named_row.specs.declared.leaves.Point.{Point}
use Rattle.branch_and_bound.specs.Choices.{HasNumbers}
use Rattle.branch_and_bound.specs.Lines.{BoxLine, low_line, high_line}
use Rattle.branch_and_bound.specs.Lineages.{Ending, Cuts, IsOptimal, IsLineage}

-- what a search rests on, of the lines that it can meet
pub record Laws (IsSound : Type 0) (root : Area) (ending : BoxLine → Ending) (bound : BoxLine → ℚ) (IsLeaf : BoxLine → Leaf → Type 0)
    (Refutes : Area → Leaf → Type 0) (Covers : Area → Leaf → ℚ → Type 0) : Type 0 where
  pub covers_more : (area : Area) (leaf : Leaf) (value more : ℚ) → Covers area leaf value → value ≤ℚ more → Covers area leaf more
  -- the leaf of a last vertex doesn't refute
  pub not_refuted : (line : BoxLine) (leaf : Leaf) → IsLineage IsSound root ending line → IsOptimal (ending line) → IsLeaf line leaf → Refutes line.area leaf → ⊥
  -- the place of an end lies in the box
  pub inside : (line : BoxLine) (place : At) → IsLineage IsSound root ending line → ending line ≡ Cuts place → IsPlace line.area place
  -- only a box with a choice of block sums is split
  pub has_numbers : (line : BoxLine) (place : At) → IsLineage IsSound root ending line → ending line ≡ Cuts place → HasNumbers line.area
  -- no part has a greater bound
  pub low_falls : (line : BoxLine) (place : At) → IsLineage IsSound root ending line → ending line ≡ Cuts place → IsOptimal (ending (low_line place line)) → bound (low_line place line) ≤ℚ bound line
  pub high_falls : (line : BoxLine) (place : At) → IsLineage IsSound root ending line → ending line ≡ Cuts place → IsOptimal (ending (high_line place line)) → bound (high_line place line) ≤ℚ bound line

pub record Rules (T K W : Type 0) : Type 1 where
  -- what the laws ask of the problem
  pub IsSound : Type 0
  -- the box at the top
  pub root : Area
  -- of a line: how many pivots lead to its end, what the end is, and the bound of the end's leaf
  pub steps : BoxLine → ℕ
  pub ending : BoxLine → Ending
  pub bound : BoxLine → ℚ
  -- the leaf of a line's end, its vertex, and what the end keeps for the parts
  pub IsLeaf : BoxLine → Leaf → Type 0
  pub IsVertex : BoxLine → Point → Type 0
  pub IsKept : BoxLine → K → Type 0
  -- the leaf before any step at the root, and its bound
  pub IsStart : Leaf → Type 0
  pub start_bound : ℚ
  -- the timing is good and has this value
  pub IsGood : T → ℚ → Type 0
  -- after so many pivots of a line another one is due; or this operation is refused
  pub IsDue : BoxLine → ℕ → Type 0
  pub IsWide : BoxLine → ℕ → W → Type 0
  -- a leaf shows that its box holds no timing; or none of a greater value than this
  pub Refutes : Area → Leaf → Type 0
  pub Covers : Area → Leaf → ℚ → Type 0
  pub laws : Laws IsSound root ending bound IsLeaf Refutes Covers

-- a line that a search of a sound problem can meet
abbrev pub IsMet : {T K W : Type 0} → Rules T K W → BoxLine → Type 0
IsMet r line = IsLineage r.IsSound r.root r.ending line
