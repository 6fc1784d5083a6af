-- What a row covers or refutes, and the first place where it does not.
use Rattle.std.specs.Prelude.{ℕ, pos, Option, List, length, slice_index_or, ◌<◌}
use Rattle.std.specs.Ordering.{is_lt, is_le}
use Rattle.rational_theory.specs.Rational.{ℚ, whole, ◌≤ℚ◌, ◌<ℚ◌}
use Rattle.rational_theory.specs.Compare.{cmp_ℚ}
use Rattle.narrow_fraction.specs.Attempt.{refusal_if, earlier, first_below}
use Rattle.named_row.specs.declared.names.Place.{Place}
use Rattle.named_row.specs.declared.names.Place.TheVariants.{Cell, Bound}
use Rattle.named_row.specs.Sheets.{Sheet}

abbrev pub number_at : List ℚ → ℕ → ℚ
number_at xs j = slice_index_or xs j (whole (pos 0))

-- each coefficient is at least the goal's, and the bound is at most the value
pub record Covers (r goal : Sheet) (value : ℚ) : Type 0 where
  pub coefs : (j : ℕ) → j < length r.coefs → number_at goal.coefs j ≤ℚ number_at r.coefs j
  pub bound : r.bound ≤ℚ value

-- no coefficient is negative, and the bound is: no point of columns that are at least 0 meets the row
pub record Refutes (r : Sheet) : Type 0 where
  pub coefs : (j : ℕ) → j < length r.coefs → whole (pos 0) ≤ℚ number_at r.coefs j
  pub bound : r.bound <ℚ whole (pos 0)

-- column j, where its coefficient x is less than y
abbrev pub below : ℚ → ℚ → ℕ → Option Place
below x y j = refusal_if (is_lt (cmp_ℚ x y)) (Cell j)

-- the first column whose coefficient is less than the goal's, and else the bound where it is more than the value
unfoldable pub uncovered : Sheet → Sheet → ℚ → Option Place
uncovered r goal value = earlier (first_below (λ j. below (number_at r.coefs j) (number_at goal.coefs j) j) (length r.coefs)) (refusal_if (is_lt (cmp_ℚ value r.bound)) Bound)

-- the first column with a negative coefficient, and else the bound where it is at least 0
unfoldable pub unrefuted : Sheet → Option Place
unrefuted r = earlier (first_below (λ j. below (number_at r.coefs j) (whole (pos 0)) j) (length r.coefs)) (refusal_if (is_le (cmp_ℚ (whole (pos 0)) r.bound)) Bound)
