-- Comparisons of rational numbers as comparisons of products of whole numbers.
use Rattle.std.proofs.Common.{◌≡◌, ℕ, ℤ, pos, ◌*ℤ◌, ◌-ℤ◌, ◌≤ℤ◌, ◌+◌, ◌*◌, ◌<◌, ◌≤◌, ◌↔◌, arith, mul-pos, refl, ap}
use Rattle.std.proofs.lemmas.Int.{ints}
use borrow.Author.Differences.{up, down}
use Rattle.rational_theory.specs.Rational.{ℚ, whole, ◌*ℚ◌, ◌-ℚ◌, inverse_ℚ, ◌≤ℚ◌}
use Rattle.rational_theory.proofs.Arithmetic.{IsRatio, own_ratio, whole_ratio, over_ratio, product_ratio, sum_ratio, neg_ratio, ≤ℚ_in, ≤ℚ_out}
use Rattle.rational_theory.proofs.Arithmetic.{rebase}
use Rattle.rational_theory.proofs.Integers.{up-mul, down-mul}
use Rattle.progression.specs.Speeds.{number}
use Rattle.progression.specs.Good.{RatioHolds}
use Rattle.time_space.specs.Limits.{paces_apart}
use Rattle.time_space.proofs.GridLimits.{grid_ratio}
use native.Mathlib.Nat.{le_of_mul-le-mul_right, mul-le-mul_right}

-- ---- changes of pace
-- one over a whole number
pub inverse_ratio : (d : ℕ) → 0 < d → IsRatio (inverse_ℚ (number d)) 1 0 d
unfolding inverse_ℚ whole
inverse_ratio d h = over_ratio (pos 1) d h

pace_ratio : (r d : ℕ) → 0 < d → IsRatio (number r *ℚ inverse_ℚ (number d)) r 0 d
pace_ratio r d h =
    rebase _ _ _ _ r 0 d (product_ratio (number r) (inverse_ℚ (number d)) _ _ _ _ _ _ (whole_ratio (pos r)) (inverse_ratio d h)) h (omega arith)

apart_ratio : (r1 d1 r2 d2 : ℕ) → 0 < d1 → 0 < d2 → IsRatio (paces_apart r1 d1 r2 d2) (r2 * d1) (r1 * d2) (d1 * d2)
apart_ratio r1 d1 r2 d2 h k =
    rebase _ _ _ _ (r2 * d1) (r1 * d2) (d1 * d2)
    (sum_ratio _ _ _ _ _ _ _ _ (pace_ratio r2 d2 k) (neg_ratio _ _ _ _ (pace_ratio r1 d1 h)))
    (mul-pos h k) (omega arith)

-- a product with a difference, in naturals
difference_times : (n a b : ℕ) → (up ((pos a -ℤ pos b) *ℤ pos n) + b * n) ≡ (down ((pos a -ℤ pos b) *ℤ pos n) + a * n)
difference_times n a b =
    let e : up (pos a -ℤ pos b) + b ≡ down (pos a -ℤ pos b) + a = omega (arith, ints) in
    omega (arith, ints, ap (λ k. k * n) e)

-- the change of pace is at least a limit
pub drop_is : (x : ℚ) (g r1 d1 r2 d2 : ℕ) → 0 < d1 → 0 < d2
    → ((x.num *ℤ pos (g * (d1 * d2))) ≤ℤ ((pos (r2 * d1) -ℤ pos (r1 * d2)) *ℤ pos x.den)) ↔ ((x *ℚ number g) ≤ℚ paces_apart r1 d1 r2 d2)
drop_is x g r1 d1 r2 d2 p q = (
  (λ h. ≤ℚ_in _ _ _ _ _ _ _ _ (grid_ratio x g) (apart_ratio r1 d1 r2 d2 p q) (omega (arith, ints, h, difference_times x.den (r2 * d1) (r1 * d2)))),
  (λ h. let e = ≤ℚ_out _ _ _ _ _ _ _ _ (grid_ratio x g) (apart_ratio r1 d1 r2 d2 p q) h in omega (arith, ints, e, difference_times x.den (r2 * d1) (r1 * d2))),
)

-- the change of pace is at most a limit
pub rise_is : (x : ℚ) (g r1 d1 r2 d2 : ℕ) → 0 < d1 → 0 < d2
    → (((pos (r2 * d1) -ℤ pos (r1 * d2)) *ℤ pos x.den) ≤ℤ (x.num *ℤ pos (g * (d1 * d2)))) ↔ (paces_apart r1 d1 r2 d2 ≤ℚ (x *ℚ number g))
rise_is x g r1 d1 r2 d2 p q = (
  (λ h. ≤ℚ_in _ _ _ _ _ _ _ _ (apart_ratio r1 d1 r2 d2 p q) (grid_ratio x g) (omega (arith, ints, h, difference_times x.den (r2 * d1) (r1 * d2)))),
  (λ h. let e = ≤ℚ_out _ _ _ _ _ _ _ _ (apart_ratio r1 d1 r2 d2 p q) (grid_ratio x g) h in omega (arith, ints, e, difference_times x.den (r2 * d1) (r1 * d2))),
)

-- ---- the ratio of the bands
-- one less a fraction
rest_ratio : (k : ℚ) → IsRatio (number 1 -ℚ k) (k.den + down k.num) (up k.num) k.den
rest_ratio k = rebase _ _ _ _ _ _ _ (sum_ratio _ _ _ _ _ _ _ _ (whole_ratio (pos 1)) (neg_ratio _ _ _ _ (own_ratio k))) k.positive (omega arith)

-- the comparison in naturals, with one less the fraction as a difference of these two
cross_ratio : (r z : ℤ) (d o i : ℕ) → r ≡ pos d -ℤ z
    → (((r *ℤ z) *ℤ pos o) ≤ℤ ((r *ℤ pos d) *ℤ pos i))
    ↔ ((((d + down z) * up z + up z * down z) * o + up z * d * i) ≤ (((d + down z) * down z + up z * up z) * o + (d + down z) * d * i))
cross_ratio r z d o i e =
    let f : up r + up z ≡ down r + (d + down z) = omega (arith, ints, e) in
    let a = ap (λ k. k * (up z * o)) f in
    let b = ap (λ k. k * (down z * o)) f in
    let c = ap (λ k. k * (d * i)) f in
    let g = up-mul r z in
    let h = down-mul r z in
    let left = ap (λ k. k * o) g in
    let left_down = ap (λ k. k * o) h in
    let right = ap (λ k. k * i) (up-mul r (pos d)) in
    let right_down = ap (λ k. k * i) (down-mul r (pos d)) in
    ((λ q. omega (arith, ints, q, a, b, c, left, left_down, right, right_down)), (λ q. omega (arith, ints, q, a, b, c, left, left_down, right, right_down)))

pub ratio_is : (k : ℚ) (o i : ℕ) → ((((pos k.den -ℤ k.num) *ℤ k.num) *ℤ pos o) ≤ℤ (((pos k.den -ℤ k.num) *ℤ pos k.den) *ℤ pos i)) ↔ RatioHolds k o i
ratio_is k o i =
    let left = product_ratio (number 1 -ℚ k) (k *ℚ number o) _ _ _ _ _ _ (rest_ratio k) (grid_ratio k o) in
    let right = product_ratio (number 1 -ℚ k) (number i) _ _ _ _ _ _ (rest_ratio k) (whole_ratio (pos i)) in
    let cross = cross_ratio (pos k.den -ℤ k.num) k.num k.den o i refl in (
      (λ h. let e = mul-le-mul_right k.den (cross.0 h) in ≤ℚ_in _ _ _ _ _ _ _ _ left right (omega (arith, e))),
      (λ h. let e = ≤ℚ_out _ _ _ _ _ _ _ _ left right h in cross.1 (le_of_mul-le-mul_right (omega (arith, e)) k.positive)),
    )
