-- Lemmas on the definitions of `Steps`.
use Rattle.std.proofs.Common.{◌≡◌, ℕ, true, false, Option, Some, None, refl, sym, ◌∙◌, ap}
use Rattle.simplex_theory.specs.Tableau.{Tableau}
use Rattle.simplex_theory.specs.BlandRule.{chosen_row, chosen_place, Move, optimal, infeasible, pivoted, move, move_by, move_in}
use Rattle.fraction_tableau.specs.Refusals.{pivot_refusal}
use Rattle.fraction_tableau.specs.declared.wide_cell.WideCell.{WideCell}
use Rattle.dual_simplex.specs.declared.outcome.Step.{Step}
use Rattle.dual_simplex.specs.declared.outcome.Step.TheVariants.{Optimal, Infeasible, Pivoted, Wide}
use Rattle.dual_simplex.specs.Ratios.{ratio_refusal}
use Rattle.dual_simplex.specs.Steps.{step_pivot, step_place, step_ratio, step_row, step_of}

pub step_optimal : (t : Tableau) → None ≡ chosen_row t → step_of t ≡ Optimal
unfolding step_of
step_optimal t e = ap (step_row t) (sym e)

pub step_wide_ratio : (t : Tableau) (r : ℕ) (w : WideCell) → Some r ≡ chosen_row t → ratio_refusal t r ≡ Some w → step_of t ≡ Wide true w
unfolding step_of
step_wide_ratio t r w e f = ap (step_row t) (sym e) ∙ ap (step_ratio t r) f

pub step_infeasible : (t : Tableau) (r : ℕ) → Some r ≡ chosen_row t → ratio_refusal t r ≡ None → None ≡ chosen_place t r → step_of t ≡ Infeasible r
unfolding step_of
step_infeasible t r e f g = ap (step_row t) (sym e) ∙ ap (step_ratio t r) f ∙ ap (step_place t r) (sym g)

pub step_pivoted : (t : Tableau) (r j : ℕ) → Some r ≡ chosen_row t → ratio_refusal t r ≡ None → Some j ≡ chosen_place t r → pivot_refusal r j t.rows t.goal ≡ None → step_of t ≡ Pivoted r j
unfolding step_of
step_pivoted t r j e f g h = ap (step_row t) (sym e) ∙ ap (step_ratio t r) f ∙ ap (step_place t r) (sym g) ∙ ap (step_pivot r j) h

pub step_wide : (t : Tableau) (r j : ℕ) (w : WideCell) → Some r ≡ chosen_row t → ratio_refusal t r ≡ None → Some j ≡ chosen_place t r
    → pivot_refusal r j t.rows t.goal ≡ Some w → step_of t ≡ Wide false w
unfolding step_of
step_wide t r j w e f g h = ap (step_row t) (sym e) ∙ ap (step_ratio t r) f ∙ ap (step_place t r) (sym g) ∙ ap (step_pivot r j) h

-- what a step says of the move; a refused one says nothing
abbrev pub Agrees : Step → Move → Type 0
Agrees Optimal m = m ≡ optimal
Agrees (Infeasible r) m = m ≡ infeasible r
Agrees (Pivoted r j) m = m ≡ pivoted r j
Agrees (Wide b w) m = Unit {0}

agrees_pivot : (r j : ℕ) (o : Option WideCell) → Agrees (step_pivot r j o) (pivoted r j)
agrees_pivot r j None = refl
agrees_pivot r j (Some w) = tt

agrees_place : (t : Tableau) (r : ℕ) (o : Option ℕ) → Agrees (step_place t r o) (move_in r o)
agrees_place t r None = refl
agrees_place t r (Some j) = agrees_pivot r j (pivot_refusal r j t.rows t.goal)

agrees_ratio : (t : Tableau) (r : ℕ) (o : Option WideCell) → Agrees (step_ratio t r o) (move_in r (chosen_place t r))
agrees_ratio t r None = agrees_place t r (chosen_place t r)
agrees_ratio t r (Some w) = tt

agrees_row : (t : Tableau) (o : Option ℕ) → Agrees (step_row t o) (move_by t o)
agrees_row t None = refl
agrees_row t (Some r) = agrees_ratio t r (ratio_refusal t r)

pub agrees : (t : Tableau) → Agrees (step_of t) (move t)
unfolding step_of move
agrees t = agrees_row t (chosen_row t)
