-- Bland's dual step as a function: the chosen row, the chosen place, the next tableau.
use Rattle.std.proofs.Common.{ℕ, pos, Bool, true, false, Option, Some, None, Ordering, Less, Equal, Greater, ltb, ◌<◌}
use Rattle.std.specs.Ordering.{is_lt}
use Rattle.rational_theory.specs.Rational.{ℚ, whole, ◌≤ℚ◌, ◌<ℚ◌}
use Rattle.rational_theory.specs.Compare.{cmp_ℚ}
use Rattle.simplex_theory.specs.Tableau.{Tableau, cell, height, width, bound, basic_at, standing_at, exchange}
use Rattle.simplex_theory.specs.DualSteps.{IsChoice, ratio}
use Rattle.simplex_theory.specs.Best.{best}

abbrev pub is_negative : ℚ → Bool
is_negative x = is_lt (cmp_ℚ x (whole (pos 0)))

-- less by the first order, and where that is equal by the second test
abbrev pub less_by : Ordering → Bool → Bool
less_by Less b = true
less_by Equal b = b
less_by Greater b = false

-- row i before row k: its basic variable has the lesser number
abbrev pub row_before : Tableau → ℕ → ℕ → Bool
row_before t i k = ltb (basic_at t i) (basic_at t k)

-- place i before place k: the lesser ratio, of equal ones the lesser variable
abbrev pub place_before : Tableau → ℕ → ℕ → ℕ → Bool
place_before t r i k = less_by (cmp_ℚ (ratio t r i) (ratio t r k)) (ltb (standing_at t i) (standing_at t k))

unfoldable pub chosen_row : Tableau → Option ℕ
chosen_row t = best (λ i. is_negative (bound t i)) (row_before t) (height t)

unfoldable pub chosen_place : Tableau → ℕ → Option ℕ
chosen_place t r = best (λ k. is_negative (cell t r k)) (place_before t r) (width t)

pub data Move : Type 0 where
  optimal : Move
  infeasible : ℕ → Move
  pivoted : ℕ → ℕ → Move

abbrev pub move_in : ℕ → Option ℕ → Move
move_in r None = infeasible r
move_in r (Some j) = pivoted r j

abbrev pub move_by : Tableau → Option ℕ → Move
move_by t None = optimal
move_by t (Some r) = move_in r (chosen_place t r)

unfoldable pub move : Tableau → Move
move t = move_by t (chosen_row t)

abbrev pub made : Move → Tableau → Tableau
made optimal t = t
made (infeasible r) t = t
made (pivoted r j) t = exchange r j t

unfoldable pub next : Tableau → Tableau
next t = made (move t) t

-- what each move says of the tableau
abbrev pub Says : Tableau → Move → Type 0
Says t optimal = (i : ℕ) → i < height t → whole (pos 0) ≤ℚ bound t i
Says t (infeasible r) = (r < height t) × (bound t r <ℚ whole (pos 0)) × ((k : ℕ) → k < width t → whole (pos 0) ≤ℚ cell t r k)
Says t (pivoted r j) = IsChoice t r j
