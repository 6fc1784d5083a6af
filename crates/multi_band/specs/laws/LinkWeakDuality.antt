-- Weak duality over the rows of links: a sum of these rows that covers the goal with a value bounds the goal at every vertex of the box, where it is at least 0.
use Rattle.std.proofs.Common.{List}
use Rattle.rational_theory.specs.Rational.{ℚ}
use Rattle.rational_theory.specs.Rows.{IsMet}
use Rattle.progression.specs.Street.{Street, count}
use Rattle.linear_theory.specs.Boxes.{Area}
use Rattle.linear_theory.proofs.Bounds.{refuted}
use Rattle.linear_theory.proofs.TreeLaws.{sum_met}
use Rattle.link_theory.specs.LinkColumns.{link_width}
use Rattle.link_theory.specs.LinkNames.{HasLinkRow, link_row}
use Rattle.link_theory.specs.LinkTrees.{LinkWeight, link_sum, AreLinkWeights, RefutesLinks}
use Rattle.link_theory.specs.LinkVertices.{IsLinkVertex}

module _ (a : Street) (box : Area) (x : List ℚ) (v : IsLinkVertex a box x) where
  pub link_sum_met : (ws : List LinkWeight) → AreLinkWeights a ws → IsMet x (link_sum a box ws)
  link_sum_met ws h = sum_met (link_row a box) (HasLinkRow a) x v.rows ws h

  -- a sum that refutes is that of no box with a vertex
  pub link_vertex_refutes : (ws : List LinkWeight) → AreLinkWeights a ws → RefutesLinks a (link_sum a box ws) → ⊥
  link_vertex_refutes ws h r = refuted (link_width (count a)) x v.columns v.not_negative (link_sum a box ws) (link_sum_met ws h) r
