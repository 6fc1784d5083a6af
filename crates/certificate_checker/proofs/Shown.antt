-- What a sum shows, from where it fails to, and back.
use Rattle.std.proofs.Common.{◌≡◌, ℕ, zero, suc, ◌<◌, ◌⊎◌, inl, inr, Bool, true, false, Option, None, Some, length, refl, sym, ap, ap₂, arith}
use Rattle.std.specs.Ordering.{is_le}
use Rattle.rational_theory.specs.Rational.{ℚ, ◌<ℚ◌}
use Rattle.rational_theory.proofs.Order.{<ℚ_not-≤ℚ}
use Rattle.rational_theory.specs.Compare.{cmp_ℚ}
use Rattle.rational_theory.proofs.Compare.{lt_false, le_true, le_false}
use Rattle.progression.specs.Speeds.{number}
use Rattle.narrow_fraction.specs.Attempt.{refusal_if, earlier, first_below}
use Rattle.narrow_fraction.proofs.Attempt.{neither, not_refused, none_each}
use Rattle.named_row.specs.Sheets.{Sheet}
use Rattle.named_row.specs.Covering.{Covers, Refutes, below, number_at, uncovered, unrefuted}
use Rattle.named_row.specs.declared.names.Place.{Place}
use Rattle.named_row.specs.declared.names.Place.TheVariants.{Cell, Bound}
use Rattle.loop_rows.proofs.LeafSums.{not_below}
use Rattle.certificate_checker.specs.TreeProofs.{Keeps}
use Rattle.certificate_checker.specs.TreeRefusals.{where_both, weakness}

first_none : {E : Type 0} (f : ℕ → Option E) (n : ℕ) → ((j : ℕ) → j < n → f j ≡ None) → first_below f n ≡ None
first_none f zero h = refl
first_none f (suc n) h = ap₂ earlier (first_none f n (λ j l. h j (omega arith))) (h n (omega arith))

not_at_most : (x y : ℚ) → y <ℚ x → is_le (cmp_ℚ x y) ≡ false
not_at_most x y h = by (is_le (cmp_ℚ x y)) refl
  where
    by : (b : Bool) → is_le (cmp_ℚ x y) ≡ b → b ≡ false
    by true e = absurd (<ℚ_not-≤ℚ y x h (le_true x y (sym e)))
    by false e = refl

-- ---- on sheets
module _ (r goal : Sheet) (limit : ℚ) where
  covered_in : uncovered r goal limit ≡ None → Covers r goal limit
  unfolding uncovered
  covered_in e = let p = neither _ _ e in record {
    coefs = λ j l. lt_false (number_at r.coefs j) (number_at goal.coefs j) (sym (not_refused _ _ (none_each (λ k. below (number_at r.coefs k) (number_at goal.coefs k) k) (length r.coefs) p.0 j l)));
    bound = lt_false limit r.bound (sym (not_refused _ _ p.1));
  }

  covered_out : Covers r goal limit → uncovered r goal limit ≡ None
  unfolding uncovered
  covered_out h =
      ap₂ earlier
      (first_none (λ k. below (number_at r.coefs k) (number_at goal.coefs k) k) (length r.coefs)
      (λ j l. ap (λ b. refusal_if b (Cell j)) (not_below (number_at r.coefs j) (number_at goal.coefs j) (h.coefs j l))))
      (ap (λ b. refusal_if b Bound) (not_below limit r.bound h.bound))

module _ (r : Sheet) where
  refuted_in : unrefuted r ≡ None → Refutes r
  unfolding unrefuted
  refuted_in e = let p = neither _ _ e in record {
    coefs = λ j l. lt_false (number_at r.coefs j) (number 0) (sym (not_refused _ _ (none_each (λ k. below (number_at r.coefs k) (number 0) k) (length r.coefs) p.0 j l)));
    bound = le_false (number 0) r.bound (sym (not_refused _ _ p.1));
  }

  refuted_out : Refutes r → unrefuted r ≡ None
  unfolding unrefuted
  refuted_out h =
      ap₂ earlier
      (first_none (λ k. below (number_at r.coefs k) (number 0) k) (length r.coefs) (λ j l. ap (λ b. refusal_if b (Cell j)) (not_below (number_at r.coefs j) (number 0) (h.coefs j l))))
      (ap (λ b. refusal_if b Bound) (not_at_most (number 0) r.bound h.bound))

one_of : (o p : Option Place) → where_both o p ≡ None → (o ≡ None) ⊎ (p ≡ None)
one_of None p e = inl refl
one_of (Some x) p e = inr e

both_from : (o p : Option Place) → p ≡ None → where_both o p ≡ None
both_from None p e = refl
both_from (Some x) p e = e

-- a sum that fails nowhere shows what is claimed, and back
pub shown_in : (sum goal : Sheet) (limit : Option ℚ) → weakness sum goal limit ≡ None → Keeps goal limit sum
shown_in sum goal None e = refuted_in sum e
shown_in sum goal (Some limit) e = elim (one_of _ _ e) [
  | inl p ↦ inr (refuted_in sum p)
  | inr p ↦ inl (covered_in sum goal limit p)
]

pub shown_out : (sum goal : Sheet) (limit : Option ℚ) → Keeps goal limit sum → weakness sum goal limit ≡ None
shown_out sum goal None h = refuted_out sum h
shown_out sum goal (Some limit) (inl h) = both_from (unrefuted sum) _ (covered_out sum goal limit h)
shown_out sum goal (Some limit) (inr h) = ap (λ o. where_both o (uncovered sum goal limit)) (refuted_out sum h)
