-- The ordered field of the rational numbers. Each law goes through `IsRatio`: a rational as a difference of naturals over a natural, in any terms.
use Rattle.std.proofs.Common.{◌≡◌, ℕ, zero, suc, ℤ, pos, ◌+ℤ◌, ◌*ℤ◌, ◌+◌, ◌*◌, ◌/◌, ◌<◌, ◌≤◌, sym, ◌∙◌, ap, subst, arith, unsigned_abs, mul-pos, zero-lt-suc}
use Rattle.std.specs.Prelude.{int_div}
use Rattle.std.specs.Coded.{le_prop}
use Rattle.std.proofs.lemmas.Int.{ints, unsigned_abs-mul}
use Rattle.std.proofs.lemmas.Nat.Gcd.{IsGcd-swap, dvd_antisymm}
use Prim.Native.Nat.{◌∣◌}
use native.Mathlib.Nat.{ℕ_set, eq_of_mul-eq-mul_right, le_of_mul-le-mul_right, mul-le-mul_right, dvd-mul_left}
use std.HLevel.{prop→path_p}
use borrow.Author.Differences.{up, down, le_out}
use Rattle.rational_theory.specs.Gcd.{gcd}
use Rattle.rational_theory.proofs.Coprime.{Coprime-cancel}
use Rattle.rational_theory.proofs.Fractions.{IsGcd-one, times-int_div}
use Rattle.rational_theory.specs.laws.Fractions.{times_part}
use Rattle.rational_theory.proofs.Integers.{cancel_ℤ, up-neg, down-neg}
use Rattle.rational_theory.specs.Rational.{ℚ, whole, over, ◌+ℚ◌, ◌*ℚ◌, neg_ℚ, ◌≤ℚ◌}

-- ---- equality
-- equal numerators and denominators make equal numbers
same_parts : (x y : ℚ) → x.num ≡ y.num → x.den ≡ y.den → x ≡ y
same_parts x y e f = λ i. record {
  num = e i;
  den = f i;
  positive = prop→path_p (λ i. 0 < f i) le_prop x.positive y.positive i;
  reduced = prop→path_p (λ i. gcd (unsigned_abs (e i)) (f i) ≡ 1) (ℕ_set _ _) x.reduced y.reduced i;
}

-- of equal cross products follows that one denominator divides the other
den_divides : (x y : ℚ) → x.num *ℤ pos y.den ≡ y.num *ℤ pos x.den → x.den ∣ y.den
den_divides x y e =
    let f : unsigned_abs x.num * y.den ≡ unsigned_abs y.num * x.den = sym (unsigned_abs-mul x.num (pos y.den)) ∙ ap unsigned_abs e ∙ unsigned_abs-mul y.num (pos x.den) in
    Coprime-cancel x.den (unsigned_abs x.num) y.den
    (IsGcd-swap (unsigned_abs x.num) x.den 1 (IsGcd-one (unsigned_abs x.num) x.den x.reduced))
    (subst (λ n. x.den ∣ n) (sym f) (dvd-mul_left x.den (unsigned_abs y.num)))

-- equal cross products make equal numbers
pub same_cross : (x y : ℚ) → x.num *ℤ pos y.den ≡ y.num *ℤ pos x.den → x ≡ y
same_cross x y e =
    let d : x.den ≡ y.den = dvd_antisymm (den_divides x y e) (den_divides y x (sym e)) in
    same_parts x y (cancel_ℤ x.num y.num y.den y.positive (e ∙ ap (λ n. y.num *ℤ pos n) d)) d

-- ---- in any terms
-- x is (p - n) / d
pub record IsRatio (x : ℚ) (p n d : ℕ) : Type 0 where
  pub above : 0 < d
  pub ratio : up x.num * d + n * x.den ≡ down x.num * d + p * x.den

-- a number in its own terms
pub own_ratio : (x : ℚ) → IsRatio x (up x.num) (down x.num) x.den
own_ratio x = record { above = x.positive; ratio = omega arith }

-- equal cross products in any terms make equal numbers
pub same_ratio : (x y : ℚ) (p n d q m e : ℕ) → IsRatio x p n d → IsRatio y q m e → p * e + m * d ≡ n * e + q * d → x ≡ y
same_ratio x y p n d q m e h k f =
    let de : 0 < d * e = mul-pos h.above k.above in
    let g : (up x.num * y.den + down y.num * x.den) * (d * e) ≡ (down x.num * y.den + up y.num * x.den) * (d * e) =
    omega (arith, ap (λ t. t * (y.den * e)) h.ratio, ap (λ t. t * (x.den * d)) k.ratio, ap (λ t. t * (x.den * y.den)) f) in
    same_cross x y (omega (arith, ints, eq_of_mul-eq-mul_right (d * e) de _ _ g))

-- a numerator and a denominator divided by a common divisor
reduced_by : (q z : ℤ) (g r d : ℕ) → pos g *ℤ q ≡ z → g * r ≡ d → up q * d + down z * r ≡ down q * d + up z * r
reduced_by q z g r d e f =
    let a : g * up q ≡ up z = omega (arith, ints) in
    let b : g * down q ≡ down z = omega (arith, ints) in
    rw (← a, ← b, ← f) (omega arith)

-- z / d in those terms
pub over_ratio : (z : ℤ) (d : ℕ) → 0 < d → IsRatio (over z d) (up z) (down z) d
unfolding over
over_ratio z zero h = absurd (omega arith)
over_ratio z (suc d) h =
    let g = gcd (unsigned_abs z) (suc d) in
    record {
      above = h;
      ratio = reduced_by (int_div z (pos g)) z g (suc d / g) (suc d) (times-int_div z g (times_part (unsigned_abs z) (suc d) h).0) (times_part (unsigned_abs z) (suc d) h).1;
    }

-- a numerator in other terms
pub over_terms : (z : ℤ) (p n d : ℕ) → 0 < d → up z + n ≡ down z + p → IsRatio (over z d) p n d
over_terms z p n d h e =
    let r = over_ratio z d h in
    record { above = h; ratio = shift (up (over z d).num) (down (over z d).num) (over z d).den (up z) (down z) p n d r.ratio e }
  where
    shift : (u v w a b p n d : ℕ) → u * d + b * w ≡ v * d + a * w → a + n ≡ b + p → u * d + n * w ≡ v * d + p * w
    shift u v w a b p n d e f = omega (arith, ap (λ t. t * w) f)

-- other terms of the same value
pub rebase : (x : ℚ) (p n d q m e : ℕ) → IsRatio x p n d → 0 < e → p * e + m * d ≡ n * e + q * d → IsRatio x q m e
rebase x p n d q m e h k f =
    let g : (up x.num * e + m * x.den) * d ≡ (down x.num * e + q * x.den) * d = omega (arith, ap (λ t. t * e) h.ratio, ap (λ t. t * x.den) f) in
    record { above = k; ratio = eq_of_mul-eq-mul_right d h.above _ _ g }

-- a sum in the terms of its parts
pub sum_ratio : (x y : ℚ) (p n d q m e : ℕ) → IsRatio x p n d → IsRatio y q m e → IsRatio (x +ℚ y) (p * e + q * d) (n * e + m * d) (d * e)
unfolding ◌+ℚ◌
sum_ratio x y p n d q m e h k =
    let a = over_terms (x.num *ℤ pos y.den +ℤ y.num *ℤ pos x.den) (up x.num * y.den + up y.num * x.den) (down x.num * y.den + down y.num * x.den)
    (x.den * y.den) (mul-pos x.positive y.positive) (omega (arith, ints)) in
    rebase _ _ _ _ _ _ _ a (mul-pos h.above k.above) (omega (arith, ap (λ t. t * (y.den * e)) h.ratio, ap (λ t. t * (x.den * d)) k.ratio))

-- a product in the terms of its parts
pub product_ratio : (x y : ℚ) (p n d q m e : ℕ) → IsRatio x p n d → IsRatio y q m e → IsRatio (x *ℚ y) (p * q + n * m) (p * m + n * q) (d * e)
unfolding ◌*ℚ◌
product_ratio x y p n d q m e h k =
    let a = over_terms (x.num *ℤ y.num) (up x.num * up y.num + down x.num * down y.num) (up x.num * down y.num + down x.num * up y.num) (x.den * y.den)
    (mul-pos x.positive y.positive) (omega (arith, ints)) in
    rebase _ _ _ _ _ _ _ a (mul-pos h.above k.above)
    (omega (arith, ap (λ t. t * (up y.num * e)) h.ratio, ap (λ t. t * (down y.num * e)) h.ratio, ap (λ t. t * (p * x.den)) k.ratio, ap (λ t. t * (n * x.den)) k.ratio))

-- a negation changes the two parts of the numerator
pub neg_ratio : (x : ℚ) (p n d : ℕ) → IsRatio x p n d → IsRatio (neg_ℚ x) n p d
unfolding neg_ℚ
neg_ratio x p n d h = record { above = h.above; ratio = simp (up-neg, down-neg) (omega (arith, h.ratio)) }

-- a whole number is over 1
pub whole_ratio : (z : ℤ) → IsRatio (whole z) (up z) (down z) 1
unfolding whole
whole_ratio z = record { above = zero-lt-suc 0; ratio = omega arith }

-- the ring laws
pub +ℚ_comm : (x y : ℚ) → x +ℚ y ≡ y +ℚ x
+ℚ_comm x y = same_ratio _ _ _ _ _ _ _ _ (sum_ratio x y _ _ _ _ _ _ (own_ratio x) (own_ratio y)) (sum_ratio y x _ _ _ _ _ _ (own_ratio y) (own_ratio x)) (omega arith)

pub +ℚ_assoc : (x y z : ℚ) → (x +ℚ y) +ℚ z ≡ x +ℚ (y +ℚ z)
+ℚ_assoc x y z =
    same_ratio _ _ _ _ _ _ _ _
    (sum_ratio _ z _ _ _ _ _ _ (sum_ratio x y _ _ _ _ _ _ (own_ratio x) (own_ratio y)) (own_ratio z))
    (sum_ratio x _ _ _ _ _ _ _ (own_ratio x) (sum_ratio y z _ _ _ _ _ _ (own_ratio y) (own_ratio z)))
    (omega arith)

pub *ℚ_assoc : (x y z : ℚ) → (x *ℚ y) *ℚ z ≡ x *ℚ (y *ℚ z)
*ℚ_assoc x y z =
    same_ratio _ _ _ _ _ _ _ _
    (product_ratio _ z _ _ _ _ _ _ (product_ratio x y _ _ _ _ _ _ (own_ratio x) (own_ratio y)) (own_ratio z))
    (product_ratio x _ _ _ _ _ _ _ (own_ratio x) (product_ratio y z _ _ _ _ _ _ (own_ratio y) (own_ratio z)))
    (omega arith)

pub *ℚ-+ℚ : (x y z : ℚ) → x *ℚ (y +ℚ z) ≡ x *ℚ y +ℚ x *ℚ z
*ℚ-+ℚ x y z =
    same_ratio _ _ _ _ _ _ _ _
    (product_ratio x _ _ _ _ _ _ _ (own_ratio x) (sum_ratio y z _ _ _ _ _ _ (own_ratio y) (own_ratio z)))
    (sum_ratio _ _ _ _ _ _ _ _ (product_ratio x y _ _ _ _ _ _ (own_ratio x) (own_ratio y)) (product_ratio x z _ _ _ _ _ _ (own_ratio x) (own_ratio z)))
    (omega arith)

pub *ℚ_comm : (x y : ℚ) → x *ℚ y ≡ y *ℚ x
*ℚ_comm x y = same_ratio _ _ _ _ _ _ _ _ (product_ratio x y _ _ _ _ _ _ (own_ratio x) (own_ratio y)) (product_ratio y x _ _ _ _ _ _ (own_ratio y) (own_ratio x)) (omega arith)

pub +ℚ-zero : (x : ℚ) → x +ℚ whole (pos 0) ≡ x
+ℚ-zero x = same_ratio _ _ _ _ _ _ _ _ (sum_ratio x _ _ _ _ _ _ _ (own_ratio x) (whole_ratio (pos 0))) (own_ratio x) (omega arith)

pub *ℚ-one : (x : ℚ) → x *ℚ whole (pos 1) ≡ x
*ℚ-one x = same_ratio _ _ _ _ _ _ _ _ (product_ratio x _ _ _ _ _ _ _ (own_ratio x) (whole_ratio (pos 1))) (own_ratio x) (omega arith)

pub *ℚ-zero : (x : ℚ) → x *ℚ whole (pos 0) ≡ whole (pos 0)
*ℚ-zero x = same_ratio _ _ _ _ _ _ _ _ (product_ratio x _ _ _ _ _ _ _ (own_ratio x) (whole_ratio (pos 0))) (whole_ratio (pos 0)) (omega arith)

pub +ℚ-neg : (x : ℚ) → x +ℚ neg_ℚ x ≡ whole (pos 0)
+ℚ-neg x = same_ratio _ _ _ _ _ _ _ _ (sum_ratio x _ _ _ _ _ _ _ (own_ratio x) (neg_ratio x _ _ _ (own_ratio x))) (whole_ratio (pos 0)) (omega arith)

pub neg-neg : (x : ℚ) → neg_ℚ (neg_ℚ x) ≡ x
neg-neg x = same_ratio _ _ _ _ _ _ _ _ (neg_ratio _ _ _ _ (neg_ratio x _ _ _ (own_ratio x))) (own_ratio x) (omega arith)

pub neg-*ℚ : (x y : ℚ) → neg_ℚ x *ℚ y ≡ neg_ℚ (x *ℚ y)
neg-*ℚ x y = same_ratio _ _ _ _ _ _ _ _ (product_ratio _ y _ _ _ _ _ _ (neg_ratio x _ _ _ (own_ratio x)) (own_ratio y))
    (neg_ratio _ _ _ _ (product_ratio x y _ _ _ _ _ _ (own_ratio x) (own_ratio y))) (omega arith)

-- ---- order
-- the order in any terms, out and in
pub ≤ℚ_out : (x y : ℚ) (p n d q m e : ℕ) → IsRatio x p n d → IsRatio y q m e → x ≤ℚ y → p * e + m * d ≤ n * e + q * d
≤ℚ_out x y p n d q m e h k l =
    let c = le_out (x.num *ℤ pos y.den) (y.num *ℤ pos x.den) l.cross in
    let b : up x.num * y.den + down y.num * x.den ≤ down x.num * y.den + up y.num * x.den = omega (arith, ints) in
    let g : (p * e + m * d) * (x.den * y.den) ≤ (n * e + q * d) * (x.den * y.den) =
    omega (arith, ap (λ t. t * (y.den * e)) h.ratio, ap (λ t. t * (x.den * d)) k.ratio, mul-le-mul_right (d * e) b) in
    le_of_mul-le-mul_right g (mul-pos x.positive y.positive)

pub ≤ℚ_in : (x y : ℚ) (p n d q m e : ℕ) → IsRatio x p n d → IsRatio y q m e → p * e + m * d ≤ n * e + q * d → x ≤ℚ y
≤ℚ_in x y p n d q m e h k l =
    let g : (up x.num * y.den + down y.num * x.den) * (d * e) ≤ (down x.num * y.den + up y.num * x.den) * (d * e) =
    omega (arith, ap (λ t. t * (y.den * e)) h.ratio, ap (λ t. t * (x.den * d)) k.ratio, mul-le-mul_right (x.den * y.den) l) in
    let b = le_of_mul-le-mul_right g (mul-pos h.above k.above) in
    record { cross = omega (arith, ints, b) }
