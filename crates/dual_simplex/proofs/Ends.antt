-- Lemmas on the definitions of `Ends`.
use Rattle.std.proofs.Common.{◌≡◌, ℕ, Bool, true, false, Some, None, cond, ◌&&◌, refl, sym, subst}
use Rattle.std.proofs.lemmas.Bool.{and_parts}
use Rattle.simplex_theory.specs.Tableau.{Tableau}
use Rattle.simplex_theory.specs.BlandRule.{optimal, infeasible, pivoted, move}
use Rattle.simplex_theory.specs.StepCounts.{is_pivot}
use Rattle.dual_simplex.specs.declared.outcome.Step.{Step}
use Rattle.dual_simplex.specs.declared.outcome.Step.TheVariants as steps
use Rattle.work_meter.specs.declared.meter.Meter.{Meter}
use Rattle.work_meter.specs.Work.{is_out}
use Rattle.dual_simplex.specs.declared.outcome.NodeEnd.{NodeEnd}
use Rattle.dual_simplex.specs.declared.outcome.NodeEnd.TheVariants.{Optimal, Infeasible, WorkOut, Wide}
use Rattle.dual_simplex.specs.Steps.{step_of}
use Rattle.dual_simplex.proofs.Steps.{Agrees, agrees}
use Rattle.dual_simplex.specs.Ends.{end_by_step, end_at}

-- ---- what an end says
abbrev pub EndSays : NodeEnd → Tableau → Meter → Type 0
EndSays Optimal t m = move t ≡ optimal
EndSays (Infeasible r) t m = move t ≡ infeasible r
EndSays WorkOut t m = (is_pivot (move t) ≡ true) × (is_out m ≡ true)
EndSays (Wide b w) t m = (step_of t ≡ steps.Wide b w) × ((is_out m && is_pivot (move t)) ≡ false)

some_same : {X : Type 0} (x y : X) → Some x ≡ Some y → x ≡ y
some_same x y e = cc

some_none : {X : Type 0} {A : Type 0} (x : X) → Some x ≡ None → A
some_none x e = cc

says_step : (t : Tableau) (m : Meter) (s : Step) (e : NodeEnd) → step_of t ≡ s → Agrees s (move t) → (is_out m && is_pivot (move t)) ≡ false → end_by_step s ≡ Some e → EndSays e t m
says_step t m steps.Optimal e q a b h = subst (λ u. EndSays u t m) (some_same Optimal e h) a
says_step t m (steps.Infeasible r) e q a b h = subst (λ u. EndSays u t m) (some_same (Infeasible r) e h) a
says_step t m (steps.Pivoted r j) e q a b h = some_none e (sym h)
says_step t m (steps.Wide x w) e q a b h = subst (λ u. EndSays u t m) (some_same (Wide x w) e h) (q, b)

says_test : (t : Tableau) (m : Meter) (b : Bool) (e : NodeEnd) → (is_out m && is_pivot (move t)) ≡ b → cond b (Some WorkOut) (end_by_step (step_of t)) ≡ Some e → EndSays e t m
says_test t m true e q h = let p = and_parts (is_out m) (is_pivot (move t)) q in subst (λ u. EndSays u t m) (some_same WorkOut e h) (p.1, p.0)
says_test t m false e q h = says_step t m (step_of t) e refl (agrees t) q h

pub end_says : (t : Tableau) (m : Meter) (e : NodeEnd) → end_at t m ≡ Some e → EndSays e t m
unfolding end_at
end_says t m e h = says_test t m (is_out m && is_pivot (move t)) e refl h

-- where the steps go on, the move is a pivot, and the step makes it: no operation is refused
pub record GoesOn (t : Tableau) : Type 0 where
  pub row : ℕ
  pub place : ℕ
  pub moves : move t ≡ pivoted row place
  pub steps : step_of t ≡ steps.Pivoted row place

goes_step : (t : Tableau) (s : Step) → step_of t ≡ s → Agrees s (move t) → end_by_step s ≡ None → GoesOn t
goes_step t steps.Optimal q a h = some_none Optimal h
goes_step t (steps.Infeasible r) q a h = some_none (Infeasible r) h
goes_step t (steps.Pivoted r j) q a h = record { row = r; place = j; moves = a; steps = q }
goes_step t (steps.Wide x w) q a h = some_none (Wide x w) h

goes_test : (t : Tableau) (b : Bool) → cond b (Some WorkOut) (end_by_step (step_of t)) ≡ None → GoesOn t
goes_test t true h = some_none WorkOut h
goes_test t false h = goes_step t (step_of t) refl (agrees t) h

pub goes_on : (t : Tableau) (m : Meter) → end_at t m ≡ None → GoesOn t
unfolding end_at
goes_on t m h = goes_test t (is_out m && is_pivot (move t)) h
