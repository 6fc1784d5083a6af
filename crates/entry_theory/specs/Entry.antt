-- The entry: pivots that bring the columns among a list of variables into the basis of a tableau that was just loaded.
use Rattle.std.proofs.Common.{◌≡◌, ◌↔◌, ℕ, zero, suc, pos, Bool, not, cond, eqb, ltb, List, get_or, length, ◌+◌, ◌&&◌, ◌<◌, ◌≤◌}
use Rattle.std.specs.Prelude.{◌==◌}
use Rattle.std.specs.List.{list_any}
use Rattle.std.specs.Ordering.{eq_by_cmp}
use Rattle.rational_theory.specs.Rational.{ℚ, whole}
use Rattle.rational_theory.specs.Compare.{cmp_ℚ}
use Rattle.simplex_theory.specs.Tableau.{Tableau, cell, height, width, basic_at, exchange}
use Rattle.simplex_theory.specs.Paths.{IsBasic}
use Rattle.entry_theory.specs.Least.{least}

abbrev pub variable_at : List ℕ → ℕ → ℕ
variable_at vs k = get_or vs k 0

-- v stands in the list
pub record IsAmong (vs : List ℕ) (v : ℕ) : Type 0 where
  pub at : ℕ
  pub within : at < length vs
  pub holds : variable_at vs at ≡ v

-- the list names the basic variables of the tableau in ascending order
pub record NamesBasics (vs : List ℕ) (t : Tableau) : Type 0 where
  pub ascending : (i k : ℕ) → i < k → k < length vs → variable_at vs i < variable_at vs k
  pub basics : (v : ℕ) → IsAmong vs v ↔ IsBasic t v

-- ---- the rule as a relation. The list is gone through. p k is the tableau before its variable k, and r k the row that
-- variable k enters where it is a column.
-- row i can take the column j that is variable k: its slack is not in the list, no earlier one took it, and it has a cell at j
pub record CanTake (vs : List ℕ) (p : ℕ → Tableau) (r : ℕ → ℕ) (k i : ℕ) : Type 0 where
  pub row : i < height (p k)
  pub left_out : IsAmong vs (width (p k) + i) → ⊥
  pub unused : (l : ℕ) → l < k → variable_at vs l < width (p k) → r l ≡ i → ⊥
  pub pivot : cell (p k) i (variable_at vs k) ≡ whole (pos 0) → ⊥

-- a column enters at the least row that can take it; at a slack nothing happens
pub record IsEntry (vs : List ℕ) (p : ℕ → Tableau) (r : ℕ → ℕ) : Type 0 where
  pub takes : (k : ℕ) → k < length vs → variable_at vs k < width (p k) → CanTake vs p r k (r k)
  pub least : (k i : ℕ) → k < length vs → variable_at vs k < width (p k) → CanTake vs p r k i → r k ≤ i
  pub column : (k : ℕ) → k < length vs → variable_at vs k < width (p k) → p (suc k) ≡ exchange (r k) (variable_at vs k) (p k)
  pub slack : (k : ℕ) → k < length vs → width (p k) ≤ variable_at vs k → p (suc k) ≡ p k

-- ---- the rule as a function. A row was not used where its own slack is still basic in it.
abbrev pub is_among : List ℕ → ℕ → Bool
is_among vs v = list_any (λ u. u == v) vs

abbrev pub is_zero : ℚ → Bool
is_zero x = eq_by_cmp cmp_ℚ x (whole (pos 0))

abbrev pub can_take : List ℕ → Tableau → ℕ → ℕ → Bool
can_take vs t j i = eqb (basic_at t i) (width t + i) && (not (is_zero (cell t i j)) && not (is_among vs (width t + i)))

-- the row that column j enters
unfoldable pub entry_row : List ℕ → Tableau → ℕ → ℕ
entry_row vs t j = least (can_take vs t j) (height t)

unfoldable pub entry_pivot : List ℕ → Tableau → ℕ → Tableau
entry_pivot vs t v = cond (ltb v (width t)) (exchange (entry_row vs t v) v t) t

-- the tableau after so many variables
unfoldable pub entry_after : List ℕ → Tableau → ℕ → Tableau
entry_after vs t zero = t
entry_after vs t (suc k) = entry_pivot vs (entry_after vs t k) (variable_at vs k)

-- the row that is used at each column
unfoldable pub entry_rows : List ℕ → Tableau → ℕ → ℕ
entry_rows vs t k = entry_row vs (entry_after vs t k) (variable_at vs k)

unfoldable pub entry : List ℕ → Tableau → Tableau
entry vs t = entry_after vs t (length vs)
