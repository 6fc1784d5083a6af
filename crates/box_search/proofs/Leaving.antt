-- Where the run of a line is left: a refused step isn't the last one, and a leaf whose sum is refused is no proof.
use Rattle.std.proofs.Common.{◌≡◌, ℕ, ◌<◌, Bool, true, false, cond, Option, Some, None, refl, sym, ◌∙◌, ap}
use Rattle.narrow_fraction.proofs.Attempt.{some_not_none}
use Rattle.linear_theory.specs.Boxes.{Area}
use Rattle.named_row.specs.declared.leaves.Leaf.{Leaf}
use Rattle.simplex_theory.specs.Tableau.{Tableau, cell, width}
use Rattle.simplex_theory.specs.BlandRule.{is_negative, place_before, chosen_row, chosen_place, move_in, move_by, move}
use Rattle.simplex_theory.proofs.BlandRule.{on_place}
use Rattle.simplex_theory.proofs.Best.{OnBest}
use Rattle.simplex_theory.specs.StepCounts.{is_pivot}
use Rattle.fraction_tableau.specs.declared.wide_cell.WideCell.{WideCell}
use Rattle.dual_simplex.specs.Ratios.{ratio_at, ratio_refusal}
use Rattle.dual_simplex.specs.Steps.{step_place, step_ratio, step_row, step_of}
use Rattle.dual_simplex.specs.declared.outcome.Step.TheVariants as steps
use Rattle.loop_rows.specs.declared.fault.SumFault.{SumFault}
use Rattle.branch_and_bound.specs.Lines.{BoxLine}
use Rattle.branch_and_bound.specs.Unfinished.{EndsUnproved}
use Rattle.box_search.specs.Program.{Program}
use Rattle.box_search.specs.declared.site.SitePart.{SitePart}
use Rattle.box_search.specs.Meaning.{Meaning, rules_from, EndsProve}
use Rattle.box_search.specs.Ends.{table_after, steps_of, end_leaf}
use Rattle.box_search.specs.Sites.{step_at, IsReached}
use Rattle.box_search.proofs.Runs.{due_at, due_before}
use Rattle.box_search.proofs.EachRefusal.{Each, each_none, each_first}

-- ---- a refused step
module _ (t : Tableau) (r : ℕ) where
  -- a place of the row whose cell is negative
  record HasNegative : Type 0 where
    place : ℕ
    within : place < width t
    negative : is_negative (cell t r place) ≡ true

  negative_there : (k : ℕ) → k < width t → Each (λ (w : WideCell). HasNegative) (ratio_at t r k)
  negative_there k l = pick (is_negative (cell t r k)) _ refl
    where
      pick : (b : Bool) (o : Option WideCell) → is_negative (cell t r k) ≡ b → Each (λ (w : WideCell). HasNegative) (cond b o None)
      pick true o e = λ w q. record { place = k; within = l; negative = e }
      pick false o e = each_none (λ (w : WideCell). HasNegative)

  refused_there : Each (λ (w : WideCell). HasNegative) (ratio_refusal t r)
  unfolding ratio_refusal
  refused_there = each_first (λ (w : WideCell). HasNegative) (ratio_at t r) (width t) negative_there

  -- so a place is chosen
  chosen_there : HasNegative → (o : Option ℕ) → OnBest (λ k. is_negative (cell t r k)) (place_before t r) (width t) o → is_pivot (move_in r o) ≡ true
  chosen_there n None h = absurd (h n.place n.within n.negative)
  chosen_there n (Some j) h = refl

  module _ (in_ratio : Bool) (w : WideCell) where
    by_place : (o : Option ℕ) → step_place t r o ≡ steps.Wide in_ratio w → is_pivot (move_in r o) ≡ true
    by_place None e = cc
    by_place (Some j) e = refl

    by_ratio : (o : Option WideCell) → ratio_refusal t r ≡ o → step_ratio t r o ≡ steps.Wide in_ratio w → is_pivot (move_in r (chosen_place t r)) ≡ true
    by_ratio None f e = by_place (chosen_place t r) e
    by_ratio (Some v) f e = chosen_there (refused_there v f) (chosen_place t r) (on_place t r)

-- at a refused step a pivot is due
wide_pivots : (t : Tableau) (in_ratio : Bool) (w : WideCell) → step_of t ≡ steps.Wide in_ratio w → is_pivot (move t) ≡ true
unfolding step_of move
wide_pivots t in_ratio w e = pick (chosen_row t) e
  where
    pick : (o : Option ℕ) → step_row t o ≡ steps.Wide in_ratio w → is_pivot (move_by t o) ≡ true
    pick None e = cc
    pick (Some r) e = by_ratio t r in_ratio w (ratio_refusal t r) refl e

-- so it comes before the end
pub wide_before : {T W : Type 0} (p : Program T W) (line : BoxLine) → p.IsSound → (k : ℕ) (in_ratio : Bool) (w : WideCell) → IsReached p line k
    → step_at p line k ≡ steps.Wide in_ratio w → k < steps_of p line
wide_before p line v k in_ratio w r e = due_before p line v k (due_at p line k r (wide_pivots (table_after p line k) in_ratio w e))

-- ---- a refused sum
pub ends_unproved : {T K : Type 0} (p : Program T SitePart) (m : Meaning K p) (IsFor : Area → Type 0) → EndsProve p m IsFor → (line : BoxLine) (leaf : Leaf) (f : SumFault)
    → leaf.multipliers.items ≡ end_leaf p line
    → p.leaf_fault line.area (end_leaf p line) ≡ Some f → EndsUnproved (rules_from p m) line
ends_unproved p m IsFor q line leaf f read e =
    let told = sym e ∙ ap (p.leaf_fault line.area) (sym read) in
    record {
      leaf = leaf;
      leaf_is = read;
      not_refuted = λ h. some_not_none (told ∙ q.refuting_free line.area leaf h);
      not_covered = λ h. some_not_none (told ∙ q.covering_free line.area leaf _ h);
    }
