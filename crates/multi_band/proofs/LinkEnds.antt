-- The sum of a leaf over the rows of links, read by their names, and the multipliers of two lists of rows.
use Rattle.std.proofs.Common.{◌≡◌, List, [], ◌∷◌, ◌++◌, map, refl, ap}
use Rattle.rational_theory.specs.Rational.{◌+ℚ◌, ◌*ℚ◌}
use Rattle.rational_theory.specs.Rows as maths
use Rattle.rational_theory.specs.Rows.{add, scale}
use Rattle.progression.specs.Street.{Street}
use Rattle.linear_theory.specs.Boxes.{Area}
use Rattle.named_row.specs.declared.leaves.Weight.{Weight}
use Rattle.dual_leaf.specs.Leaves as leaves
use Rattle.link_theory.specs.LinkTrees.{link_sum, AreLinkWeights}
use Rattle.link_space.specs.LinkWeights.{link_named}
use Rattle.multi_band.specs.LinkTables.{link_row_for}

module _ (a : Street) (box : Area) where
  -- ---- leaves
  -- the sum reads each name as the box's row
  pub link_sum_read : (ws : List Weight) → leaves.sum_of (link_row_for a box) ws ≡ link_sum a box (map link_named ws)
  link_sum_read [] = refl
  link_sum_read (w ∷ ws) =
      ap (λ (s : maths.Row). record { coefs = add (scale w.by (link_row_for a box w.row).coefs) s.coefs; bound = w.by *ℚ (link_row_for a box w.row).bound +ℚ s.bound }) (link_sum_read ws)

-- the artery has the rows, and no multiplier is negative
pub link_weights_append : (a : Street) (vs ws : List Weight) → AreLinkWeights a (map link_named vs) → AreLinkWeights a (map link_named ws) → AreLinkWeights a (map link_named (vs ++ ws))
link_weights_append a [] ws h k = k
link_weights_append a (v ∷ vs) ws h k = (h.0, h.1, link_weights_append a vs ws h.2 k)
