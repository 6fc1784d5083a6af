-- The leaves and the point that are read off a tableau, and what they are to show.
use Rattle.std.specs.Prelude.{◌≡◌, ℕ, zero, suc, pos, cond, eqb, List, [], ◌∷◌, ◌++◌, map, length, get_or, ◌+◌, ◌<◌}
use Rattle.std.specs.Ordering.{eq_by_cmp}
use Rattle.rational_theory.specs.Rational.{ℚ, whole, ◌≤ℚ◌, ◌<ℚ◌}
use Rattle.rational_theory.specs.Compare.{cmp_ℚ}
use Rattle.rational_theory.specs.Rows.{Row, combine, AllNonNegative}
use Rattle.simplex_theory.specs.Tableau.{Tableau, line, height, width, bound, goal_bound}
use Rattle.simplex_theory.specs.DualSteps.{IsDual}
use Rattle.simplex_theory.specs.Multipliers.{goal_weight, row_weight}
use Rattle.simplex_theory.specs.RowLists.{coef_at, StandsForRows, IsOptimalPoint}
use Rattle.named_row.specs.declared.names.RowId.{RowId}
use Rattle.named_row.specs.declared.leaves.Weight.{Weight}
use Rattle.fraction_tableau.specs.NamedTableaus.{NamedTableau, name_in}

-- the cells of a row, or of the goal row, which has the number after the last row
abbrev pub row_or_goal : Tableau → ℕ → List ℚ
row_or_goal t r = cond (eqb r (height t)) t.goal (line t r)

-- ---- which list
-- a multiplier of a named row, left out where it is 0
abbrev pub multiplier : RowId → ℚ → List Weight
multiplier name by = cond (eq_by_cmp cmp_ℚ by (whole (pos 0))) [] (record { row = name; by = by } ∷ [])

-- those of the rows below n, in their order
unfoldable pub multipliers_below : List RowId → (ℕ → ℚ) → ℕ → List Weight
multipliers_below names f zero = []
multipliers_below names f (suc n) = multipliers_below names f n ++ multiplier (name_in names n) (f n)

-- the goal row's: its cells at the slacks
abbrev pub goal_multipliers : NamedTableau → List Weight
goal_multipliers t = multipliers_below t.names (λ r. goal_weight t.table (width t.table + r)) (length t.names)

-- row i's: its cells at the slacks, and 1 for its own basic variable
abbrev pub row_multipliers : NamedTableau → ℕ → List Weight
row_multipliers t i = multipliers_below t.names (λ r. row_weight t.table i (width t.table + r)) (length t.names)

-- ---- what they show
-- the sum of the rows that a list names, each times its multiplier, for any way to read a name as a row
abbrev pub sum_of : (RowId → Row) → List Weight → Row
sum_of read ws = combine (map (λ w. w.by) ws) (map (λ w. read w.row) ws)

-- each of the first w coefficients is at least the goal's, and the bound is the value
pub record CoversWith (goal : List ℚ) (w : ℕ) (value : ℚ) (sum : Row) : Type 0 where
  pub coefs : (c : ℕ) → c < w → get_or goal c (whole (pos 0)) ≤ℚ coef_at sum c
  pub bound : sum.bound ≡ value

-- none of the first w coefficients is negative, and the bound is
pub record RefutesAt (w : ℕ) (sum : Row) : Type 0 where
  pub coefs : (c : ℕ) → c < w → whole (pos 0) ≤ℚ coef_at sum c
  pub bound : sum.bound <ℚ whole (pos 0)

-- u has the goal row, the names and the variables at the places that t has: so has the tableau before a refused pivot
pub record SharesGoal (t : NamedTableau) (u : Tableau) : Type 0 where
  pub goal : u.goal ≡ t.table.goal
  pub standing : u.standing ≡ t.table.standing
  pub count : height u ≡ length t.names

-- no multiplier is negative, and the sum covers the goal with the goal row's bound, for all rows and each goal that a dual
-- feasible tableau with this goal row stands for
pub record LeafCovers (t : NamedTableau) (ws : List Weight) : Type 0 where
  pub not_negative : (u : Tableau) → SharesGoal t u → IsDual u → AllNonNegative (map (λ w. w.by) ws)
  pub covers : (u : Tableau) (read : RowId → Row) (goal : List ℚ) → SharesGoal t u → IsDual u → StandsForRows u (map read t.names) goal → CoversWith goal (width u) (goal_bound u) (sum_of read ws)

-- no multiplier is negative, and the sum refutes all rows that the tableau, if dual feasible, stands for
pub record LeafRefutes (t : NamedTableau) (ws : List Weight) : Type 0 where
  pub not_negative : AllNonNegative (map (λ w. w.by) ws)
  pub refutes : (read : RowId → Row) (goal : List ℚ) → IsDual t.table → StandsForRows t.table (map read t.names) goal → RefutesAt (width t.table) (sum_of read ws)

-- where no bound of a dual feasible tableau is negative, the point is an optimal one of all rows that the tableau stands for
abbrev pub ReachesOptimum : Tableau → List ℚ → Type 0
ReachesOptimum t point = (rows : List Row) (goal : List ℚ) → IsDual t → StandsForRows t rows goal → ((i : ℕ) → i < height t → whole (pos 0) ≤ℚ bound t i) → IsOptimalPoint t rows goal point
