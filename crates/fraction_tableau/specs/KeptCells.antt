-- Rows by their cells that aren't 0: each such cell with its place, in order.
use Rattle.std.specs.Prelude.{◌≡◌, ℕ, zero, suc, Bool, pos, List, [], ◌∷◌, ◌++◌, map, cond, eqb, get_or, length, take, None, ◌<◌, ◌≤◌}
use Rattle.std.specs.List.{range_with_len}
use Rattle.std.specs.Ordering.{eq_by_cmp}
use Rattle.rational_theory.specs.Rational.{ℚ, whole, neg_ℚ, inverse_ℚ, ◌+ℚ◌, ◌*ℚ◌}
use Rattle.rational_theory.specs.Compare.{cmp_ℚ}
use Rattle.narrow_fraction.specs.Fraction.{FitsFrac}
use Rattle.narrow_fraction.specs.Attempt.{first_below}
use Rattle.fraction_tableau.specs.Refusals.{clear_at}
use Rattle.fraction_tableau.specs.declared.kept.Kept.{Kept}
use Rattle.fraction_tableau.specs.declared.merging.Merged.{Merged}

abbrev pub is_zero : ℚ → Bool
is_zero x = eq_by_cmp cmp_ℚ x (whole (pos 0))

-- the number at a place of a row
abbrev pub number_in : List ℚ → ℕ → ℚ
number_in row k = get_or row k (whole (pos 0))

-- the number x at place k, if it isn't 0
unfoldable pub kept_at : ℕ → ℚ → List Kept
kept_at k x = cond (is_zero x) [] (record { place = k; cell = x } ∷ [])

-- of the numbers at the places below n those that aren't 0, ascending by place
abbrev pub kept_below : (ℕ → ℚ) → ℕ → List Kept
kept_below f zero = []
kept_below f (suc n) = kept_below f n ++ kept_at n (f n)

-- the number of a list at a place, 0 where it has none
abbrev pub cell_in : List Kept → ℕ → ℚ
cell_in [] k = whole (pos 0)
cell_in (c ∷ cs) k = cond (eqb k c.place) c.cell (cell_in cs k)

-- the row of w places, and the bound last
unfoldable pub dense_row : ℕ → List Kept → ℚ → List ℚ
dense_row w cells bound = map (cell_in cells) (range_with_len 0 w) ++ bound ∷ []

-- so many cells of a list with room for w are a row's, and in order
pub record IsSparse (w count : ℕ) (cells : List Kept) : Type 0 where
  pub inside : count ≤ w
  pub ordered : cells ≡ kept_below (cell_in cells) w

-- ---- dividing and merging
-- the number at place k of the row c divided at place j, with v at place j
abbrev pub divided_cell : ℕ → ℚ → List ℚ → ℕ → ℚ
divided_cell j v c k = cond (eqb k j) v (number_in c k *ℚ inverse_ℚ (number_in c j))

-- the number at place k of the row d cleared at place j by the divided row e, with v at place j
abbrev pub merged_at : ℕ → ℚ → List ℚ → List ℚ → ℕ → ℚ
merged_at j v e d k = cond (eqb k j) v (number_in d k +ℚ neg_ℚ (number_in d j *ℚ number_in e k))

-- of the merge into `cells` of row d, of number i, with the divided row e, the places below done.below are done
pub record IsMerged (i j : ℕ) (v : ℚ) (e d : List ℚ) (cells : List Kept) (done : Merged) : Type 0 where
  pub inside : done.below ≤ length cells
  pub taken : done.taken ≡ length (kept_below (number_in d) done.below)
  pub made : done.made ≤ done.below
  pub merged : take done.made cells ≡ kept_below (merged_at j v e d) done.below
  pub passed : first_below (clear_at i j e d) done.below ≡ None
  pub fits : (m : ℕ) → m < done.below → FitsFrac (merged_at j v e d m)

-- whatever numbers the cells `old` are of below place n, the cells `new` are of below place p, if the numbers from n on are those of the row d
abbrev pub IsCarriedOn : List ℚ → ℕ → ℕ → List Kept → List Kept → Type 0
IsCarriedOn d n p old new = (h : ℕ → ℚ) → ((m : ℕ) → n ≤ m → m < p → h m ≡ number_in d m) → old ≡ kept_below h n → new ≡ kept_below h p
