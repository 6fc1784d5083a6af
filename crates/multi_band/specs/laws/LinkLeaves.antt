-- A leaf over the rows of links: what the row that its numbers are added up in says of the sum of the rows that it names, and back.
use Rattle.std.proofs.Common.{◌≡◌, ◌≤◌, ℕ, inl, inr, Some, List, map, length, subst, arith}
use Rattle.rational_theory.specs.Rational.{ℚ, ◌≤ℚ◌, ◌<ℚ◌}
use Rattle.rational_theory.proofs.Order.{≤ℚ_trans}
use Rattle.progression.specs.Street.{Street, count}
use Rattle.progression.specs.Speeds.{number}
use Rattle.linear_theory.specs.Boxes.{Area}
use Rattle.linear_theory.specs.Covering.{coef}
use Rattle.named_row.specs.Sheets.{Sheet}
use Rattle.named_row.specs.Covering.{Refutes}
use Rattle.named_row.specs.declared.leaves.Weight.{Weight}
use Rattle.loop_rows.specs.Weights.{total_of}
use Rattle.loop_rows.proofs.LeafSums.{total_width_by, total_coef_by, total_bound_by}
use Rattle.certificate_checker.specs.TreeProofs.{Keeps}
use Rattle.link_theory.specs.LinkColumns.{link_width}
use Rattle.link_theory.specs.LinkNames.{HasLinkRow, link_row}
use Rattle.link_theory.specs.LinkTrees.{link_sum, RefutesLinks}
use Rattle.link_space.specs.LinkWeights.{link_name_at, link_named, link_rows}
use Rattle.link_space.proofs.LinkRowTests.{links_stand}

module _ (a : Street) (box : Area) (two : 2 ≤ count a) (ws : List Weight) where
  abbrev pub total : Sheet
  total = total_of (link_rows a box) ws

  pub width_is : length total.coefs ≡ link_width (count a)
  width_is = total_width_by (link_rows a box) link_name_at (HasLinkRow a) (link_row a box) (links_stand a box two) ws

  pub coef_is : (j : ℕ) → coef total.coefs j ≡ coef (link_sum a box (map link_named ws)).coefs j
  coef_is j = total_coef_by (link_rows a box) link_name_at (HasLinkRow a) (link_row a box) (links_stand a box two) ws j

  pub link_total_bound : total.bound ≡ (link_sum a box (map link_named ws)).bound
  link_total_bound = total_bound_by (link_rows a box) link_name_at (HasLinkRow a) (link_row a box) (links_stand a box two) ws

  pub link_refutes_sum : Refutes total → RefutesLinks a (link_sum a box (map link_named ws))
  link_refutes_sum r = let w = width_is in record {
    coefs = λ j l. subst (λ x. number 0 ≤ℚ x) (coef_is j) (r.coefs j (omega arith));
    bound = subst (λ x. x <ℚ number 0) link_total_bound r.bound;
  }

-- what keeps a goal down to a limit keeps it down to a greater one
pub keeps_more : (goal sum : Sheet) (value more : ℚ) → Keeps goal (Some value) sum → value ≤ℚ more → Keeps goal (Some more) sum
keeps_more goal sum value more (inl c) h = inl (record { coefs = c.coefs; bound = ≤ℚ_trans _ _ _ c.bound h })
keeps_more goal sum value more (inr r) h = inr r
