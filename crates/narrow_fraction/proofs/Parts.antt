-- The parts of a fraction: a sign, and two numbers with no common divisor.
use Rattle.std.proofs.Common.{◌≡◌, ℕ, zero, suc, ℤ, pos, negsuc, Bool, true, false, neg_ℤ, not, ◌*ℤ◌, ◌*◌, ◌/◌, ◌<◌, ◌^◌, refl, sym, ◌∙◌, ap, ap₂}
use Rattle.std.proofs.Common.{subst, arith, unsigned_abs, mul-pos, mul-zero, zero-mul, ◌⊎◌, inl, inr}
use Rattle.std.specs.Prelude.{int_div, int_lt}
use Rattle.std.specs.Int.{IsGcd}
use mathlib.Core.Bool.{beq}
use Rattle.std.proofs.lemmas.Int.{ints}
use Rattle.std.proofs.lemmas.Nat.Gcd.{dvd_trans}
use Prim.Native.Nat.{◌∣◌}
use native.Mathlib.Nat.{one-dvd, dvd-mul_left}
use Rattle.rational_theory.specs.Gcd.{gcd}
use Rattle.rational_theory.proofs.Coprime.{Coprime-cancel}
use Rattle.rational_theory.proofs.Fractions.{IsGcd-one, gcd-is}
use Rattle.rational_theory.specs.laws.Fractions.{gcd_pos, times_part, part_pos, parts_reduced}
use Rattle.rational_theory.specs.Rational.{ℚ, over, whole, neg_ℚ, quotient, ◌*ℚ◌}
use Rattle.rational_theory.proofs.Integers.{up-neg, down-neg}
use Rattle.rational_theory.proofs.Arithmetic.{same_ratio, over_ratio}
use Rattle.rational_theory.proofs.Order.{zero_num}
use Rattle.rational_theory.proofs.Lowest.{over-own, over-lowest, num_size, over-neg_ℤ, quotient-pos, quotient-negsuc}
use Rattle.narrow_fraction.specs.Fraction.{FitsFrac, signed}
use Rattle.narrow_fraction.proofs.Zeros.{zero_fits}

pub abs-signed : (b : Bool) (n : ℕ) → unsigned_abs (signed b n) ≡ n
abs-signed true zero = refl
abs-signed true (suc n) = refl
abs-signed false n = refl

pub lowest : (b : Bool) (n d : ℕ) → 0 < d → gcd n d ≡ 1 → ((over (signed b n) d).num ≡ signed b n) × ((over (signed b n) d).den ≡ d)
lowest b n d h r = over-lowest (signed b n) d h (ap (λ t. gcd t d) (abs-signed b n) ∙ r)

pub fits_parts : (b : Bool) (n d : ℕ) → 0 < d → gcd n d ≡ 1 → FitsFrac (over (signed b n) d) → (n < 2 ^ 127) × (d < 2 ^ 127)
fits_parts b n d h r f =
    let l = lowest b n d h r in
    (subst (λ t. t < 2 ^ 127) (ap unsigned_abs l.0 ∙ abs-signed b n) f.num_fits, subst (λ t. t < 2 ^ 127) l.1 f.den_fits)

-- ---- coprime numbers
pub coprime_part : (a b z : ℕ) → IsGcd a b 1 → z ∣ b → IsGcd a z 1
coprime_part a b z h p = (one-dvd a, one-dvd z, λ e q r. h.2 e q (dvd_trans e r p))

pub coprime_turn : (a b : ℕ) → IsGcd a b 1 → IsGcd b a 1
coprime_turn a b h = (h.1, h.0, λ e p q. h.2 e q p)

pub coprime_times : (x y z : ℕ) → IsGcd x z 1 → IsGcd y z 1 → IsGcd (x * y) z 1
coprime_times x y z h k =
    (one-dvd (x * y), one-dvd z, λ e p q. k.2 e (Coprime-cancel e x y (coprime_turn x e (coprime_part x z e h q)) p) q)

-- the four parts of a product, after each numerator was divided by what it shares with the other denominator
pub cross_reduced : (a b c d : ℕ) → 0 < b → 0 < d → gcd a b ≡ 1 → gcd c d ≡ 1
    → gcd (a / gcd a d * (c / gcd c b)) (b / gcd c b * (d / gcd a d)) ≡ 1
cross_reduced a b c d p q h k =
    let g = gcd a d in
    let f = gcd c b in
    let ag : a / g ∣ a = subst (λ n. a / g ∣ n) (times_part a d q).0 (dvd-mul_left (a / g) g) in
    let dg : d / g ∣ d = subst (λ n. d / g ∣ n) (times_part a d q).1 (dvd-mul_left (d / g) g) in
    let cf : c / f ∣ c = subst (λ n. c / f ∣ n) (times_part c b p).0 (dvd-mul_left (c / f) f) in
    let bf : b / f ∣ b = subst (λ n. b / f ∣ n) (times_part c b p).1 (dvd-mul_left (b / f) f) in
    let ab : IsGcd (a / g) (b / f) 1 = coprime_turn _ _ (coprime_part _ a _ (coprime_turn _ _ (coprime_part a b _ (IsGcd-one a b h) bf)) ag) in
    let cd : IsGcd (c / f) (d / g) 1 = coprime_turn _ _ (coprime_part _ c _ (coprime_turn _ _ (coprime_part c d _ (IsGcd-one c d k) dg)) cf) in
    let ad : IsGcd (a / g) (d / g) 1 = IsGcd-one (a / g) (d / g) (parts_reduced a d q) in
    let cb : IsGcd (c / f) (b / f) 1 = IsGcd-one (c / f) (b / f) (parts_reduced c b p) in
    let one : IsGcd (a / g * (c / f)) (b / f) 1 = coprime_times _ _ _ ab cb in
    let two : IsGcd (a / g * (c / f)) (d / g) 1 = coprime_times _ _ _ ad cd in
    gcd-is _ _ 1 (coprime_turn _ _ (coprime_times _ _ _ (coprime_turn _ _ one) (coprime_turn _ _ two)))

-- ---- a fraction by its parts
num-over : (z : ℤ) (d : ℕ) → 0 < d → (over z d).num ≡ int_div z (pos (gcd (unsigned_abs z) d))
unfolding over
num-over z zero h = absurd (omega arith)
num-over z (suc d) h = refl

pub den-over : (z : ℤ) (d : ℕ) → 0 < d → (over z d).den ≡ d / gcd (unsigned_abs z) d
unfolding over
den-over z zero h = absurd (omega arith)
den-over z (suc d) h = refl

signed-int_div : (z : ℤ) (g : ℕ) → signed (int_lt z (pos 0)) (unsigned_abs z / g) ≡ int_div z (pos g)
signed-int_div (pos n) g = grind (arith, ints)
signed-int_div (negsuc n) g = refl

pub over-parts : (z : ℤ) (d : ℕ) → 0 < d → over (signed (int_lt z (pos 0)) (unsigned_abs z / gcd (unsigned_abs z) d)) (d / gcd (unsigned_abs z) d) ≡ over z d
over-parts z d h = ap₂ over (signed-int_div z (gcd (unsigned_abs z) d) ∙ sym (num-over z d h)) (sym (den-over z d h)) ∙ over-own (over z d)

-- ---- products
-- divided by what is shared, the product is the same
cross_same : (b : Bool) (m g f a' b' c' d' : ℕ) → 0 < b' * d' → 0 < g * f → 0 < (f * b') * (g * d')
    → over (signed b (a' * c')) (b' * d') ≡ over (signed b ((g * a') * (f * c'))) ((f * b') * (g * d'))
cross_same true m g f a' b' c' d' h k l =
    same_ratio _ _ _ _ _ _ _ _ (over_ratio (neg_ℤ (pos (a' * c'))) (b' * d') h) (over_ratio (neg_ℤ (pos ((g * a') * (f * c')))) ((f * b') * (g * d')) l) (simp (up-neg, down-neg) (omega arith))
cross_same false m g f a' b' c' d' h k l =
    same_ratio _ _ _ _ _ _ _ _ (over_ratio (pos (a' * c')) (b' * d') h) (over_ratio (pos ((g * a') * (f * c'))) ((f * b') * (g * d')) l) (omega arith)

pub cross-over : (s : Bool) (a b c d : ℕ) → 0 < b → 0 < d
    → over (signed s (a / gcd a d * (c / gcd c b))) (b / gcd c b * (d / gcd a d)) ≡ over (signed s (a * c)) (b * d)
cross-over s a b c d p q =
    let g = gcd a d in
    let f = gcd c b in
    let t = times_part a d q in
    let u = times_part c b p in
    let bd : 0 < (f * (b / f)) * (g * (d / g)) = rw (t.1, u.1) (mul-pos p q) in
    cross_same s 0 g f (a / g) (b / f) (c / f) (d / g) (mul-pos (part_pos c b p) (part_pos a d q)) (mul-pos (gcd_pos a d q) (gcd_pos c b p)) bd
    ∙ rw (t.0, t.1, u.0, u.1)

pub product_fits : (s : Bool) (a b c d : ℕ) → 0 < b → 0 < d → gcd a b ≡ 1 → gcd c d ≡ 1 → FitsFrac (over (signed s (a * c)) (b * d))
    → (a / gcd a d * (c / gcd c b) < 2 ^ 127) × (b / gcd c b * (d / gcd a d) < 2 ^ 127)
product_fits s a b c d p q h k f =
    fits_parts s _ _ (mul-pos (part_pos c b p) (part_pos a d q)) (cross_reduced a b c d p q h k) (subst FitsFrac (sym (cross-over s a b c d p q)) f)

not_negative : (n : ℕ) → int_lt (pos n) (pos 0) ≡ false
not_negative n = grind (arith, ints)

-- the sign and the size of a product
pub signed-times : (a b : ℤ) → signed (not (beq (int_lt a (pos 0)) (int_lt b (pos 0)))) (unsigned_abs a * unsigned_abs b) ≡ a *ℤ b
signed-times (pos a) (pos b) = rw (not_negative a, not_negative b)
signed-times (pos a) (negsuc b) = rw (not_negative a)
signed-times (negsuc a) (pos b) = rw (not_negative b)
signed-times (negsuc a) (negsuc b) = refl

pub product-over : (x y : ℚ) → over (x.num *ℤ y.num) (x.den * y.den) ≡ x *ℚ y
unfolding ◌*ℚ◌
product-over x y = refl

zero_sign : (s : Bool) (n : ℕ) → n ≡ 0 → signed s n ≡ pos 0
zero_sign true n e = rw e
zero_sign false n e = rw e

-- 0 over any number is 0
pub zero_over : (d : ℕ) → 0 < d → over (pos 0) d ≡ whole (pos 0)
zero_over d h = zero_num (over (pos 0) d) (omega (arith, ints, num_size (pos 0) d h))

zero_factor : (a c : ℕ) → (a ≡ 0) ⊎ ((a ≡ 0 → ⊥) × (c ≡ 0)) → a * c ≡ 0
zero_factor a c (inl e) = rw (e, zero-mul c)
zero_factor a c (inr h) = rw (h.1, mul-zero a)

-- a product with 0 is 0
pub zero_product : (s : Bool) (a b c d : ℕ) → 0 < b → 0 < d → (a ≡ 0) ⊎ ((a ≡ 0 → ⊥) × (c ≡ 0)) → (z : ℚ) → z ≡ whole (pos 0)
    → FitsFrac (over (signed s (a * c)) (b * d)) × (z ≡ over (signed s (a * c)) (b * d))
zero_product s a b c d p q h z e =
    let f = ap (λ n. over n (b * d)) (zero_sign s (a * c) (zero_factor a c h)) ∙ zero_over (b * d) (mul-pos p q) in
    (subst FitsFrac (sym f) zero_fits, e ∙ sym f)

-- ---- quotients of two signs
not-beq_false : (b : Bool) → not (beq b false) ≡ b
not-beq_false true = refl
not-beq_false false = refl

not-beq_true : (b : Bool) → not (beq b true) ≡ not b
not-beq_true true = refl
not-beq_true false = refl

signed-not : (b : Bool) (n : ℕ) → signed (not b) n ≡ neg_ℤ (signed b n)
signed-not true zero = refl
signed-not true (suc n) = refl
signed-not false n = refl

-- the reduced sizes with the sign of the quotient
pub quotient-parts : (n d : ℤ) → 0 < unsigned_abs d
    → over (signed (not (beq (int_lt n (pos 0)) (int_lt d (pos 0)))) (unsigned_abs n / gcd (unsigned_abs n) (unsigned_abs d))) (unsigned_abs d / gcd (unsigned_abs n) (unsigned_abs d)) ≡ quotient n d
quotient-parts n (pos d) h =
    ap (λ b. over (signed b (unsigned_abs n / gcd (unsigned_abs n) d)) (d / gcd (unsigned_abs n) d)) (ap (λ b. not (beq (int_lt n (pos 0)) b)) (not_negative d) ∙ not-beq_false (int_lt n (pos 0)))
    ∙ over-parts n d h ∙ sym (quotient-pos n d)
quotient-parts n (negsuc d) h =
    let m = unsigned_abs n / gcd (unsigned_abs n) (suc d) in
    let e = suc d / gcd (unsigned_abs n) (suc d) in
    let b = int_lt n (pos 0) in
    ap (λ z. over z e) (ap (λ t. signed t m) (not-beq_true b) ∙ signed-not b m)
    ∙ over-neg_ℤ (signed b m) e (part_pos (unsigned_abs n) (suc d) h)
    ∙ ap neg_ℚ (over-parts n (suc d) h)
    ∙ sym (over-neg_ℤ n (suc d) h)
    ∙ sym (quotient-negsuc n d)
