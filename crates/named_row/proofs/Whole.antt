-- A whole row: its columns, then its bound.
use Rattle.std.proofs.Common.{◌≡◌, ℕ, pos, Bool, true, false, Some, None, List, ◌++◌, take, drop, length, sym, ap, ap₂}
use Rattle.std.specs.Ordering.{is_lt, is_le}
use Rattle.rational_theory.specs.Rational.{ℚ, whole, ◌+ℚ◌, ◌*ℚ◌}
use Rattle.rational_theory.specs.Rows.{add, scale}
use Rattle.rational_theory.specs.Compare.{cmp_ℚ}
use Rattle.rational_theory.proofs.Compare.{lt_false, le_false}
use Rattle.narrow_fraction.specs.Attempt.{refusal_if, earlier, first_below}
use Rattle.narrow_fraction.proofs.Attempt.{not_refused, none_each}
use Rattle.named_row.specs.declared.names.Place.{Place}
use Rattle.named_row.specs.declared.names.Place.TheVariants.{Cell, Bound}
use Rattle.named_row.specs.declared.wide_at.WideAt.{WideAt}
use Rattle.named_row.specs.Sheets.{Sheet, with_times, coefs_left, left_at}
use Rattle.named_row.specs.Refusals.{place_refusal, cell_refusal, sum_refusal}
use Rattle.named_row.specs.Covering.{Covers, Refutes, below, number_at, uncovered, unrefuted}

-- ---- sums
pub cells_stop : (k : ℚ) (s r : Sheet) (w : WideAt) → first_below (cell_refusal k r.coefs s.coefs) (length r.coefs) ≡ Some w → sum_refusal k s r ≡ Some w
unfolding sum_refusal
cells_stop k s r w e = ap (λ o. earlier o (place_refusal Bound k r.bound s.bound)) e

pub bound_stops : (k : ℚ) (s r : Sheet) (w : WideAt) → first_below (cell_refusal k r.coefs s.coefs) (length r.coefs) ≡ None → place_refusal Bound k r.bound s.bound ≡ Some w
    → sum_refusal k s r ≡ Some w
unfolding sum_refusal
bound_stops k s r w e f = ap₂ (λ o p. earlier o p) e f

pub sum_passes : (k : ℚ) (s r : Sheet) → first_below (cell_refusal k r.coefs s.coefs) (length r.coefs) ≡ None → place_refusal Bound k r.bound s.bound ≡ None → sum_refusal k s r ≡ None
unfolding sum_refusal
sum_passes k s r e f = ap₂ (λ o p. earlier o p) e f

pub with_times_is : (k : ℚ) (s r : Sheet) (xs : List ℚ) (b : ℚ) (t : Bool) → xs ≡ add r.coefs (scale k s.coefs) → b ≡ r.bound +ℚ k *ℚ s.bound → t ≡ r.spent
    → ◌≡◌ {A = Sheet} (record { coefs = xs; bound = b; spent = t }) (with_times k s r)
unfolding with_times
with_times_is k s r xs b t e f g = λ i. record { coefs = e i; bound = f i; spent = g i }

-- what a refused sum leaves, in its columns and at its bound
pub left_is : (p : Place) (k : ℚ) (s r : Sheet) (xs : List ℚ) (b : ℚ) → xs ≡ coefs_left p k r.coefs s.coefs → b ≡ r.bound
    → ◌≡◌ {A = Sheet} (record { coefs = xs; bound = b; spent = true }) (left_at p k s r)
unfolding left_at
left_is p k s r xs b e f = λ i. record { coefs = e i; bound = f i; spent = true }

pub left_at_cell : (j : ℕ) (by : ℚ) (xs cs ds : List ℚ) (p : Place) → p ≡ Cell j → ds ≡ take j (add xs (scale by cs)) ++ drop j xs → ds ≡ coefs_left p by xs cs
unfolding coefs_left
left_at_cell j by xs cs ds p e f = rw e f

pub left_at_bound : (by : ℚ) (xs cs ds : List ℚ) (p : Place) → p ≡ Bound → ds ≡ add xs (scale by cs) → ds ≡ coefs_left p by xs cs
unfolding coefs_left
left_at_bound by xs cs ds p e f = rw e f

-- ---- what a row covers
pub cell_uncovered : (r g : Sheet) (v : ℚ) (p : Place) → first_below (λ j. below (number_at r.coefs j) (number_at g.coefs j) j) (length r.coefs) ≡ Some p → uncovered r g v ≡ Some p
unfolding uncovered
cell_uncovered r g v p e = ap (λ o. earlier o (refusal_if (is_lt (cmp_ℚ v r.bound)) Bound)) e

pub bound_uncovered : (r g : Sheet) (v : ℚ) → first_below (λ j. below (number_at r.coefs j) (number_at g.coefs j) j) (length r.coefs) ≡ None
    → true ≡ is_lt (cmp_ℚ v r.bound) → uncovered r g v ≡ Some Bound
unfolding uncovered
bound_uncovered r g v e f = ap₂ (λ o b. earlier o (refusal_if b Bound)) e (sym f)

pub all_covered : (r g : Sheet) (v : ℚ) → first_below (λ j. below (number_at r.coefs j) (number_at g.coefs j) j) (length r.coefs) ≡ None → false ≡ is_lt (cmp_ℚ v r.bound) → uncovered r g v ≡ None
unfolding uncovered
all_covered r g v e f = ap₂ (λ o b. earlier o (refusal_if b Bound)) e (sym f)

pub covers : (r g : Sheet) (v : ℚ) → first_below (λ j. below (number_at r.coefs j) (number_at g.coefs j) j) (length r.coefs) ≡ None → false ≡ is_lt (cmp_ℚ v r.bound) → Covers r g v
covers r g v e f = record {
  coefs = λ j h. lt_false _ _ (sym (not_refused (is_lt (cmp_ℚ (number_at r.coefs j) (number_at g.coefs j))) (Cell j)
      (none_each (λ j. below (number_at r.coefs j) (number_at g.coefs j) j) (length r.coefs) e j h)));
  bound = lt_false v r.bound f;
}

-- ---- what a row refutes
pub cell_unrefuted : (r : Sheet) (p : Place) → first_below (λ j. below (number_at r.coefs j) (whole (pos 0)) j) (length r.coefs) ≡ Some p → unrefuted r ≡ Some p
unfolding unrefuted
cell_unrefuted r p e = ap (λ o. earlier o (refusal_if (is_le (cmp_ℚ (whole (pos 0)) r.bound)) Bound)) e

pub bound_unrefuted : (r : Sheet) → first_below (λ j. below (number_at r.coefs j) (whole (pos 0)) j) (length r.coefs) ≡ None → true ≡ is_le (cmp_ℚ (whole (pos 0)) r.bound) → unrefuted r ≡ Some Bound
unfolding unrefuted
bound_unrefuted r e f = ap₂ (λ o b. earlier o (refusal_if b Bound)) e (sym f)

pub all_refuted : (r : Sheet) → first_below (λ j. below (number_at r.coefs j) (whole (pos 0)) j) (length r.coefs) ≡ None → false ≡ is_le (cmp_ℚ (whole (pos 0)) r.bound) → unrefuted r ≡ None
unfolding unrefuted
all_refuted r e f = ap₂ (λ o b. earlier o (refusal_if b Bound)) e (sym f)

pub refutes : (r : Sheet) → first_below (λ j. below (number_at r.coefs j) (whole (pos 0)) j) (length r.coefs) ≡ None → false ≡ is_le (cmp_ℚ (whole (pos 0)) r.bound) → Refutes r
refutes r e f = record {
  coefs = λ j h. lt_false _ _ (sym (not_refused (is_lt (cmp_ℚ (number_at r.coefs j) (whole (pos 0)))) (Cell j)
      (none_each (λ j. below (number_at r.coefs j) (whole (pos 0)) j) (length r.coefs) e j h)));
  bound = le_false (whole (pos 0)) r.bound f;
}
