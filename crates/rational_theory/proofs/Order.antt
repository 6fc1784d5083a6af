-- The order of the rational numbers, and division.
use Rattle.std.proofs.Common.{◌≡◌, ◌↔◌, ℕ, zero, suc, ℤ, pos, negsuc, ◌+ℤ◌, ◌*ℤ◌, neg_ℤ, ◌≤ℤ◌, ◌+◌, ◌*◌, ◌-◌, ◌<◌, ◌≤◌, ◌⊎◌, inl, inr, refl, sym, ◌∙◌, ap, arith, zero-lt-suc, mul-le-mul_left}
use Rattle.std.proofs.lemmas.Int.{ints, by_lt_z}
use lib.Signed.{clash_ℤ}
use native.Mathlib.Nat.{le_of_mul-le-mul_right, mul-le-mul_right}
use borrow.Author.Differences.{up, down}
use Rattle.rational_theory.specs.Rational.{ℚ, whole, over, ◌+ℚ◌, ◌*ℚ◌, neg_ℚ, inverse_ℚ, turned, ◌≤ℚ◌, ◌<ℚ◌}
use Rattle.rational_theory.proofs.Arithmetic.{IsRatio, own_ratio, same_ratio, over_terms, over_ratio, sum_ratio, product_ratio, neg_ratio, whole_ratio, ≤ℚ_in, ≤ℚ_out, *ℚ_assoc, *ℚ-one, *ℚ-zero}

-- the order in own terms
≤ℚ_own : (x y : ℚ) → x ≤ℚ y → up x.num * y.den + down y.num * x.den ≤ down x.num * y.den + up y.num * x.den
≤ℚ_own x y h = ≤ℚ_out x y _ _ _ _ _ _ (own_ratio x) (own_ratio y) h

own-≤ℚ : (x y : ℚ) → up x.num * y.den + down y.num * x.den ≤ down x.num * y.den + up y.num * x.den → x ≤ℚ y
own-≤ℚ x y h = ≤ℚ_in x y _ _ _ _ _ _ (own_ratio x) (own_ratio y) h

-- the order is total and antisymmetric
pub ≤ℚ_refl : (x : ℚ) → x ≤ℚ x
≤ℚ_refl x = own-≤ℚ x x (omega arith)

pub ≤ℚ_trans : (x y z : ℚ) → x ≤ℚ y → y ≤ℚ z → x ≤ℚ z
≤ℚ_trans x y z h k =
    let a = mul-le-mul_right z.den (≤ℚ_own x y h) in
    let b = mul-le-mul_right x.den (≤ℚ_own y z k) in
    let c : (up x.num * z.den + down z.num * x.den) * y.den ≤ (down x.num * z.den + up z.num * x.den) * y.den = omega (arith, a, b) in
    own-≤ℚ x z (le_of_mul-le-mul_right c y.positive)

pub ≤ℚ_antisymm : (x y : ℚ) → x ≤ℚ y → y ≤ℚ x → x ≡ y
≤ℚ_antisymm x y h k = same_ratio x y _ _ _ _ _ _ (own_ratio x) (own_ratio y) (omega (arith, ≤ℚ_own x y h, ≤ℚ_own y x k))

-- natural numbers are in order one way or the other
total_ℕ : (a b : ℕ) → (a ≤ b) ⊎ (b ≤ a)
total_ℕ a b = grind arith

pub ≤ℚ_total : (x y : ℚ) → (x ≤ℚ y) ⊎ (y ≤ℚ x)
≤ℚ_total x y = pick (total_ℕ (up x.num * y.den + down y.num * x.den) (down x.num * y.den + up y.num * x.den))
  where
    pick : (up x.num * y.den + down y.num * x.den ≤ down x.num * y.den + up y.num * x.den) ⊎ (down x.num * y.den + up y.num * x.den ≤ up x.num * y.den + down y.num * x.den) → (x ≤ℚ y) ⊎ (y ≤ℚ x)
    pick (inl h) = inl (own-≤ℚ x y h)
    pick (inr h) = inr (own-≤ℚ y x (omega arith))

-- a sum on both sides
pub ≤ℚ-+ℚ : (x y z : ℚ) → x ≤ℚ y → (x +ℚ z) ≤ℚ (y +ℚ z)
≤ℚ-+ℚ x y z h =
    ≤ℚ_in _ _ _ _ _ _ _ _ (sum_ratio x z _ _ _ _ _ _ (own_ratio x) (own_ratio z)) (sum_ratio y z _ _ _ _ _ _ (own_ratio y) (own_ratio z))
    (omega (arith, mul-le-mul_right (z.den * z.den) (≤ℚ_own x y h)))

-- (p - n) * a ≤ (p - n) * b
spread : (a b p n : ℕ) → a ≤ b → n ≤ p → p * a + n * b ≤ n * a + p * b
spread a b p n h k =
    let e : n + (p - n) ≡ p = omega arith in
    rw (← e) (omega (arith, mul-le-mul_left (p - n) h))

-- a product with a number of at least 0 on both sides
pub ≤ℚ-*ℚ : (x y z : ℚ) → x ≤ℚ y → whole (pos 0) ≤ℚ z → (x *ℚ z) ≤ℚ (y *ℚ z)
≤ℚ-*ℚ x y z h k =
    let s = spread _ _ (up z.num * z.den) (down z.num * z.den) (≤ℚ_own x y h) (omega (arith, mul-le-mul_right z.den (≤ℚ_out _ z _ _ _ _ _ _ (whole_ratio (pos 0)) (own_ratio z) k))) in
    ≤ℚ_in _ _ _ _ _ _ _ _ (product_ratio x z _ _ _ _ _ _ (own_ratio x) (own_ratio z)) (product_ratio y z _ _ _ _ _ _ (own_ratio y) (own_ratio z))
    (omega (arith, s))

-- ---- division
-- a number times its reciprocal is 1
turned_times : (z : ℤ) (d : ℕ) (x : ℚ) → 0 < d → (z ≡ pos 0 → ⊥) → IsRatio x (up z) (down z) d → x *ℚ turned z d ≡ whole (pos 1)
turned_times (pos zero) d x h n r = absurd (n refl)
turned_times (pos (suc a)) d x h n r =
    same_ratio _ _ _ _ _ _ _ _ (product_ratio x _ _ _ _ _ _ _ r (over_ratio (pos d) (suc a) (zero-lt-suc a))) (whole_ratio (pos 1)) (omega arith)
turned_times (negsuc a) d x h n r =
    same_ratio _ _ _ _ _ _ _ _ (product_ratio x _ _ _ _ _ _ _ r (over_terms (neg_ℤ (pos d)) 0 d (suc a) (zero-lt-suc a) (omega (arith, ints)))) (whole_ratio (pos 1)) (omega arith)

-- only 0 has the numerator 0
pub zero_num : (x : ℚ) → x.num ≡ pos 0 → x ≡ whole (pos 0)
zero_num x e = same_ratio x _ _ _ _ _ _ _ (own_ratio x) (whole_ratio (pos 0)) (omega (arith, ints))

-- division, by a number that is not 0
pub *ℚ-inverse : (x : ℚ) → (x ≡ whole (pos 0) → ⊥) → x *ℚ inverse_ℚ x ≡ whole (pos 1)
unfolding inverse_ℚ
*ℚ-inverse x n = turned_times x.num x.den x x.positive (λ e. n (zero_num x e)) (own_ratio x)

-- a factor that is not 0 can be left out
pub *ℚ_cancel : (x y z : ℚ) → (z ≡ whole (pos 0) → ⊥) → x *ℚ z ≡ y *ℚ z → x ≡ y
*ℚ_cancel x y z n e = sym (undo x) ∙ ap (λ t. t *ℚ inverse_ℚ z) e ∙ undo y
  where
    undo : (t : ℚ) → t *ℚ z *ℚ inverse_ℚ z ≡ t
    undo t = *ℚ_assoc t z (inverse_ℚ z) ∙ ap (λ u. t *ℚ u) (*ℚ-inverse z n) ∙ *ℚ-one t

-- whole numbers
pub whole-+ℤ : (a b : ℤ) → whole (a +ℤ b) ≡ whole a +ℚ whole b
whole-+ℤ a b = same_ratio _ _ _ _ _ _ _ _ (whole_ratio (a +ℤ b)) (sum_ratio _ _ _ _ _ _ _ _ (whole_ratio a) (whole_ratio b)) (omega (arith, ints))

pub whole-*ℤ : (a b : ℤ) → whole (a *ℤ b) ≡ whole a *ℚ whole b
whole-*ℤ a b = same_ratio _ _ _ _ _ _ _ _ (whole_ratio (a *ℤ b)) (product_ratio _ _ _ _ _ _ _ _ (whole_ratio a) (whole_ratio b)) (omega (arith, ints))

pub whole-neg_ℤ : (a : ℤ) → whole (neg_ℤ a) ≡ neg_ℚ (whole a)
whole-neg_ℤ a = same_ratio _ _ _ _ _ _ _ _ (whole_ratio (neg_ℤ a)) (neg_ratio _ _ _ _ (whole_ratio a)) (omega (arith, ints))

pub whole-≤ℤ : (a b : ℤ) → a ≤ℤ b → whole a ≤ℚ whole b
whole-≤ℤ a b h = ≤ℚ_in _ _ _ _ _ _ _ _ (whole_ratio a) (whole_ratio b) (omega (arith, ints))

pub ≤ℤ_whole : (a b : ℤ) → whole a ≤ℚ whole b → a ≤ℤ b
≤ℤ_whole a b h = let k = ≤ℚ_out _ _ _ _ _ _ _ _ (whole_ratio a) (whole_ratio b) h in omega (arith, ints, k)

-- a number of whole ticks: x times d is z exactly when x is z / d
pub times_den : (z : ℤ) (d : ℕ) → 0 < d → over z d *ℚ whole (pos d) ≡ whole z
times_den z d h = same_ratio _ _ _ _ _ _ _ _ (product_ratio _ _ _ _ _ _ _ _ (over_ratio z d h) (whole_ratio (pos d))) (whole_ratio z) (omega arith)

-- ---- below
-- below is the denial of at least
pub <ℚ_not-≤ℚ : (x y : ℚ) → x <ℚ y → y ≤ℚ x → ⊥
<ℚ_not-≤ℚ x y h k = clash_ℤ h.cross k.cross

pub <ℚ-≤ℚ : (x y : ℚ) → x <ℚ y → x ≤ℚ y
<ℚ-≤ℚ x y h = record { cross = let l = h.cross in omega (arith, ints) }

pub not-≤ℚ : (x y : ℚ) → (y ≤ℚ x → ⊥) → x <ℚ y
not-≤ℚ x y n = by_lt_z {P = x <ℚ y} (x.num *ℤ pos y.den) (y.num *ℤ pos x.den) (λ h. record { cross = h }) (λ h. absurd (n (record { cross = h })))

-- 1 is not 0
one_not_zero : whole (pos 1) ≡ whole (pos 0) → ⊥
one_not_zero f = let g = ≤ℤ_whole (pos 1) (pos 0) (rw f (≤ℚ_refl (whole (pos 0)))) in absurd (omega (arith, ints))

-- a reciprocal is not 0
pub inverse_not_zero : (x : ℚ) → (x ≡ whole (pos 0) → ⊥) → inverse_ℚ x ≡ whole (pos 0) → ⊥
inverse_not_zero x n e = one_not_zero (sym (*ℚ-inverse x n) ∙ ap (λ t. x *ℚ t) e ∙ *ℚ-zero x)

-- below what is below
pub <ℚ_trans : (x y z : ℚ) → x <ℚ y → y <ℚ z → x <ℚ z
<ℚ_trans x y z h k = not-≤ℚ x z (λ l. <ℚ_not-≤ℚ x y h (≤ℚ_trans y z x (<ℚ-≤ℚ y z k) l))

-- a negation turns the order round
pub neg-≤ℚ : (x y : ℚ) → x ≤ℚ y → neg_ℚ y ≤ℚ neg_ℚ x
neg-≤ℚ x y h = ≤ℚ_in _ _ _ _ _ _ _ _ (neg_ratio y _ _ _ (own_ratio y)) (neg_ratio x _ _ _ (own_ratio x)) (omega (arith, ≤ℚ_own x y h))

-- cross multiplication
pub over_≤ℚ : (a b : ℤ) (d e : ℕ) → 0 < d → 0 < e → (over a d ≤ℚ over b e) ↔ ((a *ℤ pos e) ≤ℤ (b *ℤ pos d))
over_≤ℚ a b d e h k = (
  λ l. let m = ≤ℚ_out _ _ _ _ _ _ _ _ (over_ratio a d h) (over_ratio b e k) l in omega (arith, ints, m),
  λ l. ≤ℚ_in _ _ _ _ _ _ _ _ (over_ratio a d h) (over_ratio b e k) (omega (arith, ints)),
)

-- a denominator of 1
pub whole_num : (x : ℚ) → x.den ≡ 1 → x ≡ whole x.num
whole_num x e = same_ratio x _ _ _ _ _ _ _ (own_ratio x) (whole_ratio x.num) (rw e (omega arith))

pub whole_not_zero : (z : ℤ) → (z ≡ pos 0 → ⊥) → whole z ≡ whole (pos 0) → ⊥
unfolding whole
whole_not_zero z n e = n (ap (λ (t : ℚ). t.num) e)

pub above_not_zero : (x : ℚ) → whole (pos 0) <ℚ x → x ≡ whole (pos 0) → ⊥
above_not_zero x h e = <ℚ_not-≤ℚ _ _ h (rw e (≤ℚ_refl (whole (pos 0))))
