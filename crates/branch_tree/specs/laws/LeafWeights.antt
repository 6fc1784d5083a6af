-- A leaf over the rows of an artery's box: its sum, and that the artery has its rows.
use Rattle.std.proofs.Common.{◌≡◌, Bool, true, false, cond, List, [], ◌∷◌, map, refl, ap}
use Rattle.std.specs.Ordering.{eq_by_cmp}
use Rattle.rational_theory.specs.Rational.{ℚ, ◌+ℚ◌, ◌*ℚ◌, ◌≤ℚ◌}
use Rattle.rational_theory.specs.Compare.{cmp_ℚ}
use Rattle.rational_theory.specs.Rows as maths
use Rattle.rational_theory.specs.Rows.{add, scale}
use Rattle.progression.specs.Street.{Street}
use Rattle.progression.specs.Speeds.{number}
use Rattle.linear_theory.specs.Boxes.{Area}
use Rattle.linear_theory.specs.Names.{HasRow, name_of}
use Rattle.linear_theory.specs.Trees.{AreWeights}
use Rattle.named_row.specs.declared.names.RowId.{RowId}
use Rattle.named_row.specs.declared.leaves.Weight.{Weight}
use Rattle.loop_rows.specs.Weights.{named}
use Rattle.program_builder.specs.BoxRows.{rows_of}
use Rattle.program_builder.proofs.RowOrder.{among_there_is}
use Rattle.program_builder.specs.Opening.{row_for}
use Rattle.dual_leaf.specs.Leaves as leaves
use Rattle.dual_leaf.specs.Leaves.{multiplier}
use Rattle.branch_tree.specs.LeafRows.{sum_of}
use Rattle.box_search.specs.laws.Duality.{AreOver}

-- the sum reads each name as the box's row
pub sum_read : (a : Street) (box : Area) (ws : List Weight) → leaves.sum_of (row_for a box) ws ≡ sum_of a box ws
sum_read a box [] = refl
sum_read a box (w ∷ ws) =
    ap (λ (s : maths.Row). record { coefs = add (scale w.by (row_for a box w.row).coefs) s.coefs; bound = w.by *ℚ (row_for a box w.row).bound +ℚ s.bound }) (sum_read a box ws)

-- ---- the artery has the rows, and no multiplier is negative
pub weight_there : (a : Street) (row : RowId) (by : ℚ) → HasRow a (name_of row.family row.index) → number 0 ≤ℚ by → AreWeights a (map named (multiplier row by))
weight_there a row by h low = pick (eq_by_cmp cmp_ℚ by (number 0))
  where
    pick : (b : Bool) → AreWeights a (map named (cond b [] (record { row = row; by = by } ∷ [])))
    pick true = tt
    pick false = (h, low, tt)

pub weights_of : (a : Street) (ws : List Weight) → AreOver (rows_of a) ws → AreWeights a (map named ws)
weights_of a [] h = tt
weights_of a (w ∷ ws) h = ((among_there_is a w.row).0 h.0, h.1, weights_of a ws h.2)
