-- From what the steps of a line's run answer to where the run stands: how many steps lead to the end, and which stop it is.
use Rattle.std.proofs.Common.{arith, ◌≡◌, ℕ, ◌<◌, ◌⊎◌, inl, inr, Bool, true, false, true≢false, Some, None, cond, ◌&&◌, refl, sym, ◌∙◌, ap, subst}
use Rattle.narrow_fraction.specs.Attempt.{earlier}
use Rattle.narrow_fraction.proofs.Attempt.{some_not_none}
use Rattle.simplex_theory.specs.Tableau.{Tableau}
use Rattle.simplex_theory.specs.BlandRule.{Move, move}
use Rattle.simplex_theory.specs.StepCounts.{after, is_pivot, steps_to_end}
use Rattle.simplex_theory.proofs.StepCounts.{ended, pivots_to_end}
use Rattle.fraction_tableau.specs.NamedTableaus.{NamedTableau}
use Rattle.fraction_tableau.specs.declared.wide_cell.WideCell.{WideCell}
use Rattle.dual_simplex.specs.declared.outcome.Step.{Step}
use Rattle.dual_simplex.specs.declared.outcome.Step.TheVariants as steps
use Rattle.work_meter.specs.declared.meter.Meter.{Meter}
use Rattle.dual_simplex.specs.declared.outcome.NodeEnd.{NodeEnd}
use Rattle.dual_simplex.specs.declared.outcome.NodeEnd.TheVariants.{Optimal, Infeasible, WorkOut, Wide}
use Rattle.dual_simplex.specs.Steps.{step_of}
use Rattle.dual_simplex.proofs.Steps.{Agrees, agrees}
use Rattle.work_meter.specs.Work.{is_out, metered}
use Rattle.dual_simplex.specs.Ends.{Solved, end_at, end_by_step}
use Rattle.dual_simplex.proofs.Ends.{goes_on}
use Rattle.loop_rows.specs.declared.fault.SumFault.TheVariants as fault
use Rattle.named_row.specs.declared.names.RowId.{RowId}
use Rattle.named_row.specs.declared.wide_at.WideAt.{WideAt}
use Rattle.branch_and_bound.specs.Lines.{BoxLine}
use Rattle.box_search.specs.Program.{Program, Refused}
use Rattle.box_search.specs.Ends.{table_after, steps_of, end_leaf, end_point}
use Rattle.box_search.specs.Sites.{step_at, is_made, sum_refusal, vertex_refusal, leaf_refusal, refusal_by, refusal_at, IsReached, IsDue, IsWide}
use Rattle.box_search.proofs.EachRefusal.{some_same}

-- ---- the step where the steps of a node end
abbrev StepsAt : NodeEnd → Step → Type 0
StepsAt Optimal s = s ≡ steps.Optimal
StepsAt (Infeasible r) s = s ≡ steps.Infeasible r
StepsAt WorkOut s = Unit {0}
StepsAt (Wide b w) s = s ≡ steps.Wide b w

by_step : (s : Step) (e : NodeEnd) → end_by_step s ≡ Some e → StepsAt e s
by_step steps.Optimal e h = subst (λ u. StepsAt u steps.Optimal) (some_same Optimal e h) refl
by_step (steps.Infeasible r) e h = subst (λ u. StepsAt u (steps.Infeasible r)) (some_same (Infeasible r) e h) refl
by_step (steps.Pivoted r j) e h = cc
by_step (steps.Wide b w) e h = subst (λ u. StepsAt u (steps.Wide b w)) (some_same (Wide b w) e h) refl

pub ends_step : (t : Tableau) (m : Meter) (e : NodeEnd) → end_at t m ≡ Some e → StepsAt e (step_of t)
unfolding end_at
ends_step t m e h = pick (is_out m && is_pivot (move t)) h
  where
    pick : (b : Bool) → cond b (Some WorkOut) (end_by_step (step_of t)) ≡ Some e → StepsAt e (step_of t)
    pick true k = subst (λ u. StepsAt u (step_of t)) (some_same WorkOut e k) tt
    pick false k = by_step (step_of t) e k

made_pivots : (s : Step) (m : Move) → Agrees s m → is_made s ≡ true → is_pivot m ≡ true
made_pivots steps.Optimal m a e = absurd (true≢false (sym e))
made_pivots (steps.Infeasible r) m a e = absurd (true≢false (sym e))
made_pivots (steps.Pivoted r j) m a e = ap is_pivot a
made_pivots (steps.Wide b w) m a e = absurd (true≢false (sym e))

order : (k n : ℕ) → (k < n) ⊎ ((n < k) ⊎ (k ≡ n))
order k n = grind arith

module _ {T W : Type 0} (p : Program T W) (line : BoxLine) where
  -- ---- what was reached
  pub reached_by : (e : NodeEnd) (s t : NamedTableau) (m n : Meter) (old new k : ℕ) → s.table ≡ p.first line → Solved e s t m n old new k → IsReached p line k
  unfolding table_after
  reached_by e s t m n old new k o h = record {
    made = λ i l.
        let g = goes_on (after s.table i) (metered m i) (h.goes_on i l) in
        ap (λ u. is_made (step_of (after u i))) (sym o) ∙ ap is_made g.steps;
  }

  pub table_by : (s : NamedTableau) (k : ℕ) → s.table ≡ p.first line → after s.table k ≡ table_after p line k
  unfolding table_after
  table_by s k o = ap (λ u. after u k) o

  pivots_before : (k : ℕ) → IsReached p line k → (i : ℕ) → i < k → is_pivot (move (table_after p line i)) ≡ true
  pivots_before k r i l = made_pivots (step_at p line i) (move (table_after p line i)) (agrees (table_after p line i)) (r.made i l)

  -- where no pivot is due, the steps of the box were made
  pub end_here : p.IsSound → (k : ℕ) → IsReached p line k → is_pivot (move (table_after p line k)) ≡ false → k ≡ steps_of p line
  unfolding table_after steps_of
  end_here v k r e = pick (order k (steps_to_end (p.first line)))
    where
      pick : (k < steps_to_end (p.first line)) ⊎ ((steps_to_end (p.first line) < k) ⊎ (k ≡ steps_to_end (p.first line))) → k ≡ steps_to_end (p.first line)
      pick (inl l) = absurd (true≢false (sym (pivots_to_end (p.first line) k l) ∙ e))
      pick (inr (inl l)) = absurd (true≢false (sym (pivots_before k r (steps_to_end (p.first line)) l) ∙ ended (p.first line) (p.first_is v line).dual))
      pick (inr (inr q)) = q

  -- a pivot is due only before the end
  pub due_before : p.IsSound → (k : ℕ) → IsDue p line k → k < steps_of p line
  unfolding table_after steps_of
  due_before v k d = pick (order k (steps_to_end (p.first line)))
    where
      pick : (k < steps_to_end (p.first line)) ⊎ ((steps_to_end (p.first line) < k) ⊎ (k ≡ steps_to_end (p.first line))) → k < steps_to_end (p.first line)
      pick (inl l) = l
      pick (inr (inl l)) = absurd (true≢false (sym (pivots_before k d.reached (steps_to_end (p.first line)) l) ∙ ended (p.first line) (p.first_is v line).dual))
      pick (inr (inr q)) = absurd (true≢false (sym (subst (λ n. is_pivot (move (after (p.first line) n)) ≡ true) q d.due) ∙ ended (p.first line) (p.first_is v line).dual))

  -- ---- stops
  pub due_at : (k : ℕ) → IsReached p line k → is_pivot (move (table_after p line k)) ≡ true → IsDue p line k
  due_at k r e = record { reached = r; due = e }

  pub wide_ratio : (k : ℕ) (w : WideCell) → IsReached p line k → step_at p line k ≡ steps.Wide true w → IsWide p line k (p.ratio_part w)
  unfolding refusal_at
  wide_ratio k w r e = record { reached = r; refused = ap (refusal_by p line) e }

  pub wide_pivot : (k : ℕ) (w : WideCell) → IsReached p line k → step_at p line k ≡ steps.Wide false w → IsWide p line k (p.pivot_part w)
  unfolding refusal_at
  wide_pivot k w r e = record { reached = r; refused = ap (refusal_by p line) e }

  leaf_wide : (row : RowId) (at : WideAt) → p.leaf_fault line.area (end_leaf p line) ≡ Some (fault.Wide row at) → leaf_refusal p line ≡ Some (p.sum_part row at)
  leaf_wide row at f = ap (sum_refusal p) f

  pub wide_sum_optimal : (k : ℕ) (row : RowId) (at : WideAt) → IsReached p line k → step_at p line k ≡ steps.Optimal
      → p.leaf_fault line.area (end_leaf p line) ≡ Some (fault.Wide row at) → IsWide p line k (p.sum_part row at)
  unfolding refusal_at
  wide_sum_optimal k row at r e f = record { reached = r; refused = ap (refusal_by p line) e ∙ ap (λ o. earlier o (vertex_refusal (p.outcome line.area (end_point p line)))) (leaf_wide row at f) }

  pub wide_sum_infeasible : (k i : ℕ) (row : RowId) (at : WideAt) → IsReached p line k → step_at p line k ≡ steps.Infeasible i
      → p.leaf_fault line.area (end_leaf p line) ≡ Some (fault.Wide row at) → IsWide p line k (p.sum_part row at)
  unfolding refusal_at
  wide_sum_infeasible k i row at r e f = record { reached = r; refused = ap (refusal_by p line) e ∙ leaf_wide row at f }

  pub wide_vertex : (k : ℕ) (w : W) → IsReached p line k → step_at p line k ≡ steps.Optimal → p.leaf_fault line.area (end_leaf p line) ≡ None
      → p.outcome line.area (end_point p line) ≡ Refused w → IsWide p line k w
  unfolding refusal_at
  wide_vertex k w r e f g = record {
    reached = r;
    refused = ap (refusal_by p line) e ∙ ap (λ o. earlier (sum_refusal p o) (vertex_refusal (p.outcome line.area (end_point p line)))) f ∙ ap vertex_refusal g;
  }

  -- a run has one first refused operation at most
  made_goes_on : (i : ℕ) → is_made (step_at p line i) ≡ true → refusal_at p line i ≡ None
  unfolding refusal_at
  made_goes_on i e = pick (step_at p line i) e
    where
      pick : (s : Step) → is_made s ≡ true → refusal_by p line s ≡ None
      pick steps.Optimal e = absurd (true≢false (sym e))
      pick (steps.Infeasible r) e = absurd (true≢false (sym e))
      pick (steps.Pivoted r j) e = refl
      pick (steps.Wide in_ratio w) e = absurd (true≢false (sym e))

  not_earlier : (k m : ℕ) (part : W) → IsReached p line m → refusal_at p line k ≡ Some part → k < m → ⊥
  not_earlier k m part r e l = some_not_none (sym e ∙ made_goes_on k (r.made k l))

  pub one_site : (k m : ℕ) (part other : W) → IsWide p line k part → IsWide p line m other → (k ≡ m) × (part ≡ other)
  one_site k m part other g h = pick (order k m)
    where
      pick : (k < m) ⊎ ((m < k) ⊎ (k ≡ m)) → (k ≡ m) × (part ≡ other)
      pick (inl l) = absurd (not_earlier k m part h.reached g.refused l)
      pick (inr (inl l)) = absurd (not_earlier m k other g.reached h.refused l)
      pick (inr (inr e)) = (e, some_same part other (sym g.refused ∙ ap (refusal_at p line) e ∙ h.refused))
