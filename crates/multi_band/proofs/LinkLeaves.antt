-- What the sum of the rows that a leaf names says of the row that its numbers are added up in.
use Rattle.std.proofs.Common.{◌≤◌, List, [], ◌∷◌, map, sym, subst, arith}
use Rattle.rational_theory.specs.Rational.{ℚ, ◌≤ℚ◌, ◌<ℚ◌}
use Rattle.progression.specs.Street.{Street, count}
use Rattle.progression.specs.Speeds.{number}
use Rattle.linear_theory.specs.Boxes.{Area}
use Rattle.named_row.specs.Covering.{Covers, Refutes, number_at}
use Rattle.named_row.specs.declared.leaves.Weight.{Weight}
use Rattle.certificate_checker.specs.TreeProofs.{AreRows}
use Rattle.link_theory.specs.LinkRows.{link_goal}
use Rattle.link_theory.specs.LinkTrees.{link_sum, AreLinkWeights, CoversLinks, RefutesLinks}
use Rattle.link_space.specs.LinkWeights.{link_name_at, link_named, link_rows}
use Rattle.link_space.specs.LinkSheets.{link_goal_sheet}
use Rattle.link_space.proofs.LinkRowTests.{link_row_decided}
use Rattle.multi_band.specs.laws.LinkLeaves.{coef_is, link_total_bound, total, width_is}

module _ (a : Street) (box : Area) (two : 2 ≤ count a) (ws : List Weight) where
  pub link_covers_total : (value : ℚ) → CoversLinks a value (link_sum a box (map link_named ws)) → Covers (total a box two ws) (link_goal_sheet a) value
  link_covers_total value c = let w = width_is a box two ws in record {
    coefs = λ j l. subst (λ x. number_at (link_goal a) j ≤ℚ x) (sym (coef_is a box two ws j)) (c.coefs j (omega arith));
    bound = subst (λ x. x ≤ℚ value) (sym (link_total_bound a box two ws)) c.bound;
  }

  pub link_refutes_total : RefutesLinks a (link_sum a box (map link_named ws)) → Refutes (total a box two ws)
  link_refutes_total r = let w = width_is a box two ws in record {
    coefs = λ j l. subst (λ x. number 0 ≤ℚ x) (sym (coef_is a box two ws j)) (r.coefs j (omega arith));
    bound = subst (λ x. x <ℚ number 0) (sym (link_total_bound a box two ws)) r.bound;
  }

-- the rows are there
pub link_rows_there : (a : Street) (box : Area) (ws : List Weight) → AreLinkWeights a (map link_named ws) → AreRows (link_rows a box) ws
link_rows_there a box [] h = tt
link_rows_there a box (w ∷ ws) h = ((link_row_decided a (link_name_at w.row)).1 h.0, h.1, link_rows_there a box ws h.2)
