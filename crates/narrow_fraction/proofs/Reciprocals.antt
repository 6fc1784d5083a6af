-- The two numbers of a reciprocal.
use Rattle.std.proofs.Common.{◌≡◌, ℕ, zero, suc, ℤ, pos, negsuc, neg_ℤ, true, false, true≢false, refl, ◌∙◌, ap, arith, unsigned_abs, zero-lt-suc}
use Rattle.std.specs.Prelude.{int_lt}
use Rattle.std.proofs.lemmas.Int.{ints}
use Rattle.std.proofs.lemmas.Nat.Gcd.{IsGcd-swap}
use Rattle.rational_theory.specs.Gcd.{gcd}
use Rattle.rational_theory.proofs.Fractions.{gcd-is, IsGcd-one}
use Rattle.rational_theory.specs.laws.Fractions.{abs-neg_ℤ}
use Rattle.rational_theory.specs.Rational.{ℚ, whole, inverse_ℚ, turned}
use Rattle.rational_theory.proofs.Order.{zero_num}
use Rattle.rational_theory.proofs.Lowest.{over-lowest}

swapped : (a b : ℕ) → gcd a b ≡ 1 → gcd b a ≡ 1
swapped a b e = gcd-is b a 1 (IsGcd-swap a b 1 (IsGcd-one a b e))

turned_below : (z : ℤ) (d : ℕ) → gcd (unsigned_abs z) d ≡ 1 → int_lt z (pos 0) ≡ true → ((turned z d).num ≡ neg_ℤ (pos d)) × (pos (turned z d).den ≡ neg_ℤ z)
turned_below (pos a) d r s = absurd (omega (arith, ints))
turned_below (negsuc a) d r s =
    let l = over-lowest (neg_ℤ (pos d)) (suc a) (zero-lt-suc a) (ap (λ t. gcd t (suc a)) (abs-neg_ℤ (pos d)) ∙ swapped (suc a) d r) in
    (l.0, ap pos l.1)

turned_above : (z : ℤ) (d : ℕ) → gcd (unsigned_abs z) d ≡ 1 → int_lt z (pos 0) ≡ false → (z ≡ pos 0 → ⊥) → ((turned z d).num ≡ pos d) × (pos (turned z d).den ≡ z)
turned_above (pos zero) d r s n = absurd (n refl)
turned_above (pos (suc a)) d r s n =
    let l = over-lowest (pos d) (suc a) (zero-lt-suc a) (swapped (suc a) d r) in
    (l.0, ap pos l.1)
turned_above (negsuc a) d r s n = absurd (true≢false s)

pub inverse_below : (x : ℚ) → int_lt x.num (pos 0) ≡ true → ((inverse_ℚ x).num ≡ neg_ℤ (pos x.den)) × (pos (inverse_ℚ x).den ≡ neg_ℤ x.num)
unfolding inverse_ℚ
inverse_below x s = turned_below x.num x.den x.reduced s

pub inverse_above : (x : ℚ) → int_lt x.num (pos 0) ≡ false → (x ≡ whole (pos 0) → ⊥) → ((inverse_ℚ x).num ≡ pos x.den) × (pos (inverse_ℚ x).den ≡ x.num)
unfolding inverse_ℚ
inverse_above x s n = turned_above x.num x.den x.reduced s (λ e. n (zero_num x e))
