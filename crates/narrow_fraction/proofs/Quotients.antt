-- Quotients of two numbers with or without a common divisor: their sign, and their numerator over another denominator.
use Rattle.std.proofs.Common.{◌≡◌, ◌↔◌, ℕ, zero, suc, ℤ, pos, negsuc, nat_eq, unsigned_abs, ◌*ℤ◌, ◌<ℤ◌, ◌+◌, ◌*◌, ◌/◌, ◌%◌, ◌<◌, refl, sym, ◌∙◌, ap, subst, arith}
use Rattle.std.specs.Prelude.{int_lt, IsTrue}
use Rattle.std.proofs.lemmas.Bool.Decides.{nat_tests}
use Rattle.std.proofs.lemmas.Int.{ints}
use Rattle.std.proofs.lemmas.Nat.Gcd.{mod-eq-zero_of_dvd, dvd_of_mod-eq-zero}
use Prim.Native.Nat.{◌∣◌}
use native.Mathlib.Nat.{mul-div_cancel', dvd-mul_left}
use borrow.Author.Differences.{up, down}
use Rattle.rational_theory.specs.Gcd.{gcd}
use Rattle.rational_theory.specs.Rational.{ℚ, over, whole, ◌*ℚ◌, ◌<ℚ◌}
use Rattle.rational_theory.specs.laws.Fractions.{times_part}
use Rattle.rational_theory.proofs.Arithmetic.{same_ratio, over_ratio, over_terms, own_ratio, whole_ratio, ≤ℚ_in, ≤ℚ_out, *ℚ_comm, *ℚ-zero}
use Rattle.rational_theory.proofs.Order.{not-≤ℚ, <ℚ_not-≤ℚ, times_den, whole_not_zero}
use Rattle.narrow_fraction.proofs.Parts.{zero_over, den-over}

-- ---- signs
over_not_zero : (p : ℤ) (d : ℕ) → 0 < d → (p ≡ pos 0 → ⊥) → over p d ≡ whole (pos 0) → ⊥
over_not_zero p d h n e = whole_not_zero p n (sym (times_den p d h) ∙ ap (λ t. t *ℚ whole (pos d)) e ∙ *ℚ_comm _ _ ∙ *ℚ-zero _)

below_zero : (a d : ℕ) → 0 < d → over (negsuc a) d <ℚ whole (pos 0)
below_zero a d h = not-≤ℚ _ _ (λ l. let p = ≤ℚ_out _ _ _ _ _ _ _ _ (whole_ratio (pos 0)) (over_ratio (negsuc a) d h) l in absurd (omega (arith, p)))

not_below : (a d : ℕ) → 0 < d → over (pos a) d <ℚ whole (pos 0) → ⊥
not_below a d h k = <ℚ_not-≤ℚ _ _ k (≤ℚ_in _ _ _ _ _ _ _ _ (whole_ratio (pos 0)) (over_ratio (pos a) d h) (omega arith))

-- a quotient is below 0 exactly where its numerator is
pub negative_test : (n : ℤ) (d : ℕ) → 0 < d → IsTrue (int_lt n (pos 0)) ↔ (over n d <ℚ whole (pos 0))
negative_test (pos a) d h = (λ e. absurd (omega (arith, ints)), λ e. absurd (not_below a d h e))
negative_test (negsuc a) d h = (λ e. below_zero a d h, λ e. refl)

pub below_by_numerator : (n : ℤ) (d : ℕ) → 0 < d → over n d <ℚ whole (pos 0) → n <ℤ pos 0
below_by_numerator (pos a) d h k = absurd (not_below a d h k)
below_by_numerator (negsuc a) d h k = omega (arith, ints)

not_zero : (a : ℕ) → IsTrue (nat_eq (suc a) 0) → ⊥
not_zero a e = grind (arith, nat_tests)

-- and 0 exactly where its numerator is
pub zero_test : (n : ℤ) (d : ℕ) → 0 < d → IsTrue (nat_eq (unsigned_abs n) 0) ↔ (over n d ≡ whole (pos 0))
zero_test (pos zero) d h = (λ e. zero_over d h, λ e. refl)
zero_test (pos (suc a)) d h = (λ e. absurd (not_zero a e), λ e. absurd (over_not_zero (pos (suc a)) d h (λ f. absurd (omega (arith, ints))) e))
zero_test (negsuc a) d h = (λ e. absurd (not_zero a e), λ e. absurd (over_not_zero (negsuc a) d h (λ f. absurd (omega (arith, ints))) e))

-- ---- numerators
spread : (u v q n d : ℕ) → n * q ≡ d → u * q * n + v * d ≡ v * q * n + u * d
spread u v q n d e = rw (← e) (omega arith)

-- x over a multiple of its denominator
pub over_multiple : (x : ℚ) (d : ℕ) → 0 < d → x.den * (d / x.den) ≡ d → over (x.num *ℤ pos (d / x.den)) d ≡ x
over_multiple x d h e = same_ratio _ _ _ _ _ _ _ _ (over_terms (x.num *ℤ pos (d / x.den)) (up x.num * (d / x.den)) (down x.num * (d / x.den)) d h (omega (arith, ints)))
    (own_ratio x) (spread (up x.num) (down x.num) (d / x.den) x.den d e)

-- both numbers times the same one
pub over_scaled : (n : ℤ) (k d b : ℕ) → 0 < d → 0 < b → d * k ≡ b → over (n *ℤ pos k) b ≡ over n d
over_scaled n k d b h g e = same_ratio _ _ _ _ _ _ _ _ (over_terms (n *ℤ pos k) (up n * k) (down n * k) b g (omega (arith, ints))) (over_ratio n d h) (spread (up n) (down n) k d b e)

over_den : (n : ℤ) (d : ℕ) → 0 < d → (over n d).den ∣ d
over_den n d h =
    let t = (times_part (unsigned_abs n) d h).1 in
    subst (λ m. m ∣ d) (sym (den-over n d h)) (subst (λ m. d / gcd (unsigned_abs n) d ∣ m) t (dvd-mul_left (d / gcd (unsigned_abs n) d) (gcd (unsigned_abs n) d)))

whole_same : (a b : ℤ) → whole a ≡ whole b → a ≡ b
unfolding whole
whole_same a b e = ap (λ (t : ℚ). t.num) e

-- over one denominator a number has one numerator
pub over_same : (a b : ℤ) (d : ℕ) → 0 < d → over a d ≡ over b d → a ≡ b
over_same a b d h e = whole_same a b (sym (times_den a d h) ∙ ap (λ t. t *ℚ whole (pos d)) e ∙ times_den b d h)

-- a denominator that isn't a multiple of the least one has none
pub no_numerator : (x : ℚ) (n : ℤ) (d : ℕ) → 0 < d → x ≡ over n d → d % x.den ≡ 0
no_numerator x n d h e = mod-eq-zero_of_dvd x.den (subst (λ (y : ℚ). y.den ∣ d) (sym e) (over_den n d h))

-- and a multiple has this one
pub numerator_is : (x : ℚ) (n : ℤ) (d : ℕ) → 0 < d → d % x.den ≡ 0 → x ≡ over n d → n ≡ x.num *ℤ pos (d / x.den)
numerator_is x n d h m e = over_same n (x.num *ℤ pos (d / x.den)) d h (sym e ∙ sym (over_multiple x d h (mul-div_cancel' x.den (dvd_of_mod-eq-zero x.den m))))

pub numerator : (x : ℚ) (d : ℕ) → 0 < d → d % x.den ≡ 0 → x ≡ over (x.num *ℤ pos (d / x.den)) d
numerator x d h m = sym (over_multiple x d h (mul-div_cancel' x.den (dvd_of_mod-eq-zero x.den m)))
