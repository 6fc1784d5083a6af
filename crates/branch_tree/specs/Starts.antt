-- The leaf that bounds the root of Little's program of 1966 before any step: the rows of the waits at signal 1, the outbound one once and the inbound one so
-- many times as the ratio is. Each wait and its band fit into the green, so together they bound the weighted band.
use Rattle.std.specs.Prelude.{◌∷◌, List}
use Rattle.rational_theory.specs.Rational.{ℚ}
use Rattle.progression.specs.Street.{Street}
use Rattle.progression.specs.Speeds.{number}
use Rattle.linear_theory.specs.Boxes.{root_box}
use Rattle.named_row.specs.declared.names.RowId.{RowId}
use Rattle.named_row.specs.declared.leaves.Weight.{Weight}
use Rattle.dual_leaf.specs.Leaves.{multiplier}
use Rattle.branch_tree.specs.LeafRows.{sum_of}

-- the first outbound wait's row and the first inbound one's
abbrev pub first_out : RowId
first_out = record { family = 1; index = 1 }

abbrev pub first_in : RowId
first_in = record { family = 2; index = 1 }

abbrev pub start_leaf : Street → List Weight
start_leaf a = record { row = first_out; by = number 1 } ∷ multiplier first_in a.head.ratio

-- the bound of its sum
unfoldable pub start_bound : Street → ℚ
start_bound a = (sum_of a (root_box a) (start_leaf a)).bound
