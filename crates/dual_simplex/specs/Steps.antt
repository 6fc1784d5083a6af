-- A step of the dual method as a function of the tableau, with its refusals, and the tableau after it.
use Rattle.std.proofs.Common.{◌≡◌, ℕ, true, false, Option, Some, None}
use Rattle.simplex_theory.specs.Tableau.{Tableau, exchange}
use Rattle.simplex_theory.specs.BlandRule.{chosen_row, chosen_place}
use Rattle.fraction_tableau.specs.Refusals.{pivot_refusal}
use Rattle.fraction_tableau.specs.NamedTableaus.{NamedTableau, IsSpentFrom}
use Rattle.fraction_tableau.specs.declared.wide_cell.WideCell.{WideCell}
use Rattle.dual_simplex.specs.declared.outcome.Step.{Step}
use Rattle.dual_simplex.specs.declared.outcome.Step.TheVariants.{Optimal, Infeasible, Pivoted, Wide}
use Rattle.dual_simplex.specs.Ratios.{ratio_refusal}

abbrev pub step_pivot : ℕ → ℕ → Option WideCell → Step
step_pivot r j None = Pivoted r j
step_pivot r j (Some w) = Wide false w

abbrev pub step_place : Tableau → ℕ → Option ℕ → Step
step_place t r None = Infeasible r
step_place t r (Some j) = step_pivot r j (pivot_refusal r j t.rows t.goal)

abbrev pub step_ratio : Tableau → ℕ → Option WideCell → Step
step_ratio t r None = step_place t r (chosen_place t r)
step_ratio t r (Some w) = Wide true w

abbrev pub step_row : Tableau → Option ℕ → Step
step_row t None = Optimal
step_row t (Some r) = step_ratio t r (ratio_refusal t r)

unfoldable pub step_of : Tableau → Step
step_of t = step_row t (chosen_row t)

-- the tableau t after the step of s: unchanged but for a pivot, which is made or refused
abbrev pub IsAfterStep : Step → NamedTableau → NamedTableau → Type 0
IsAfterStep Optimal s t = t ≡ s
IsAfterStep (Infeasible r) s t = t ≡ s
IsAfterStep (Pivoted r j) s t = t ≡ record s { table = exchange r j s.table }
IsAfterStep (Wide true w) s t = t ≡ s
IsAfterStep (Wide false w) s t = IsSpentFrom s t
