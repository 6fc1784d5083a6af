-- Quotients of bounded numbers in lowest terms.
use Rattle.std.proofs.Common.{◌≡◌, ℕ, zero, suc, pos, ◌≤ℤ◌, ◌*◌, ◌<◌, sym, ◌∙◌, ap, subst, arith, unsigned_abs, mul-pos}
use Rattle.std.proofs.lemmas.Int.{ints}
use Rattle.rational_theory.proofs.Fractions.{first_part_pos}
use Rattle.rational_theory.specs.Rational.{ℚ, whole, over, ◌*ℚ◌, ◌/ℚ◌, ◌≤ℚ◌, inverse_ℚ}
use Rattle.rational_theory.proofs.Arithmetic.{IsRatio, own_ratio, same_ratio, over_ratio, product_ratio, whole_ratio, *ℚ_assoc, *ℚ_comm, *ℚ-one, ≤ℚ_out}
use Rattle.rational_theory.proofs.Order.{≤ℚ_refl, *ℚ-inverse, *ℚ_cancel}
use Rattle.progression.specs.Speeds.{number}
use Rattle.artery_model.specs.Valid.{IsQuantity}

-- the quotient of numbers above 0 is above 0
pub over_positive : (n d : ℕ) → 0 < n → 0 < d → pos 1 ≤ℤ (over (pos n) d).num
unfolding over
over_positive n zero h k = absurd (omega arith)
over_positive n (suc d) h k = let p = first_part_pos n (suc d) h k in omega (arith, ints, p)

-- ---- quotients
not_zero : (w : ℚ) (p d : ℕ) → IsRatio w p 0 d → 0 < p → w ≡ whole (pos 0) → ⊥
not_zero w p d r h e =
    let P : ℚ → Type 0 = λ t. w ≤ℚ t in
    let k = ≤ℚ_out w (whole (pos 0)) p 0 d 0 0 1 r (whole_ratio (pos 0)) (subst P e (≤ℚ_refl w)) in
    omega (arith, k)

back : (x w : ℚ) → (w ≡ whole (pos 0) → ⊥) → (x /ℚ w) *ℚ w ≡ x
back x w n = *ℚ_assoc x (inverse_ℚ w) w ∙ ap (λ t. x *ℚ t) (*ℚ_comm (inverse_ℚ w) w ∙ *ℚ-inverse w n) ∙ *ℚ-one x

-- what gives x when it is multiplied by w is x over w
is_quotient : (x w y : ℚ) → (w ≡ whole (pos 0) → ⊥) → y *ℚ w ≡ x → y ≡ x /ℚ w
is_quotient x w y n e = *ℚ_cancel y (x /ℚ w) w n (e ∙ sym (back x w n))

positive_ratio : (v : ℚ) (n : ℕ) → v.num ≡ pos n → IsRatio v n 0 v.den
positive_ratio v n e = record { above = v.positive; ratio = rw e (omega arith) }

-- a over k times v
pub over_times : (a k n : ℕ) (v : ℚ) → v.num ≡ pos n → 0 < n → 0 < k → over (pos (a * v.den)) (k * n) ≡ number a /ℚ (number k *ℚ v)
over_times a k n v e h g =
    let w = product_ratio (number k) v k 0 1 n 0 v.den (whole_ratio (pos k)) (positive_ratio v n e) in
    let t = over_ratio (pos (a * v.den)) (k * n) (mul-pos g h) in
    let kn : 0 < k * n = mul-pos g h in
    let w0 : IsRatio (number k *ℚ v) (k * n) 0 v.den = record { above = v.positive; ratio = omega (arith, w.ratio) } in
    is_quotient (number a) (number k *ℚ v) (over (pos (a * v.den)) (k * n)) (not_zero (number k *ℚ v) (k * n) v.den w0 kn)
    (same_ratio _ _ _ _ _ _ _ _ (product_ratio _ _ _ _ _ _ _ _ t w0) (whole_ratio (pos a)) (omega arith))

-- x over the whole number k
pub over_whole : (x : ℚ) (k : ℕ) → 0 < k → over x.num (k * x.den) ≡ x /ℚ number k
over_whole x k h =
    let t = over_ratio x.num (k * x.den) (mul-pos h x.positive) in
    is_quotient x (number k) (over x.num (k * x.den)) (not_zero (number k) k 1 (whole_ratio (pos k)) h)
    (same_ratio _ _ _ _ _ _ _ _ (product_ratio _ _ _ _ _ _ _ _ t (whole_ratio (pos k))) (own_ratio x) (omega arith))

-- a speed is above 0
pub above_zero : (v : ℚ) → IsQuantity (pos 1) (pos 300) v → (v.num ≡ pos (unsigned_abs v.num)) × (0 < unsigned_abs v.num)
above_zero v h = (omega (arith, ints, h.least, v.positive), omega (arith, ints, h.least, v.positive))
