-- Boxes whose steps didn't come to a leaf. One of which only the vertex couldn't be read isn't such a box: its leaf stands.
use Rattle.std.specs.Prelude.{◌≡◌, ℕ, ◌<◌, ◌⊎◌}
use Rattle.named_row.specs.declared.leaves.Leaf.{Leaf}
use Rattle.branch_and_bound.specs.Lines.{BoxLine}
use Rattle.branch_and_bound.specs.Lineages.{Stuck}
use Rattle.branch_and_bound.specs.Rules.{Rules}

-- the leaf of a line's end is no proof: an operation of its sum is refused
pub record EndsUnproved {T K W : Type 0} (r : Rules T K W) (line : BoxLine) : Type 0 where
  pub leaf : Leaf
  pub leaf_is : r.IsLeaf line leaf
  pub not_refuted : r.Refutes line.area leaf → ⊥
  pub not_covered : r.Covers line.area leaf (r.bound line) → ⊥

-- after so many steps others are left, or all were made and the leaf of the end is no proof
abbrev pub IsUnfinished : {T K W : Type 0} → Rules T K W → BoxLine → ℕ → Type 0
IsUnfinished r line k = (k < r.steps line) ⊎ ((k ≡ r.steps line) × EndsUnproved r line)

-- the same, or all steps were made and the vertex of the end can't be read
abbrev pub IsLeft : {T K W : Type 0} → Rules T K W → BoxLine → ℕ → Type 0
IsLeft r line k = IsUnfinished r line k ⊎ ((k ≡ r.steps line) × (r.ending line ≡ Stuck))
