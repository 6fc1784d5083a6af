-- Floors, ceilings and quotients of fractions in any terms.
use Rattle.std.proofs.Common.{◌≡◌, ◌↔◌, ℕ, zero, suc, ℤ, pos, negsuc, neg_ℤ, ◌≤ℤ◌, ◌+◌, ◌*◌, ◌/◌, ◌<◌, ◌≤◌, refl, ◌∙◌, ap, arith, unsigned_abs, mul-pos, le-div_iff_mul-le, div-lt_iff_lt-mul}
use Rattle.std.proofs.lemmas.Int.{ints}
use Rattle.std.specs.Int.{int_div_euclid}
use borrow.Author.Differences.{up, down}
use Rattle.rational_theory.specs.Rational.{ℚ, over, ◌/ℚ◌, ◌<ℚ◌}
use Rattle.rational_theory.proofs.Arithmetic.{IsRatio, own_ratio, over_ratio, rebase, product_ratio, whole_ratio, same_ratio, ≤ℚ_in, ≤ℚ_out}
use Rattle.rational_theory.proofs.Order.{≤ℚ_refl, zero_num, above_not_zero, <ℚ_not-≤ℚ, *ℚ_cancel}
use Rattle.rational_theory.proofs.Lowest.{over-neg_ℤ}
use Rattle.rational_theory.specs.Floor.{floor_ℚ, ceil_ℚ}
use Rattle.rational_theory.proofs.Floor.{down_out, down_in, floor_is}
use Rattle.rational_theory.proofs.Shares.{quotient_times}
use Rattle.progression.specs.Speeds.{number}

-- ---- floors
-- two integers above the same integers are equal
same_by_below : (x y : ℤ) → ((z : ℤ) → (z ≤ℤ x) ↔ (z ≤ℤ y)) → x ≡ y
same_by_below x y f =
    let h = (f x).0 (omega (arith, ints)) in
    let k = (f y).1 (omega (arith, ints)) in
    omega (arith, ints)

-- the floor of a fraction in any terms is Rust's `div_euclid`
pub floor_over : (z : ℤ) (d : ℕ) → 0 < d → floor_ℚ (over z d) ≡ int_div_euclid z (pos d)
floor_over z d h = same_by_below _ _ (λ w. (
  λ k. let l = (floor_is w (over z d)).1 k in down_out w z d h (omega (arith, ≤ℚ_out _ _ _ _ _ _ _ _ (whole_ratio w) (over_ratio z d h) l)),
  λ k. (floor_is w (over z d)).0 (≤ℚ_in _ _ _ _ _ _ _ _ (whole_ratio w) (over_ratio z d h) (omega (arith, down_in w z d h k))),
))

-- and the ceiling is that of the negation, negated
pub ceil_over : (z : ℤ) (d : ℕ) → 0 < d → ceil_ℚ (over z d) ≡ neg_ℤ (int_div_euclid (neg_ℤ z) (pos d))
unfolding ceil_ℚ
ceil_over z d h = rw (← (over-neg_ℤ z d h), floor_over (neg_ℤ z) d h) refl

-- ---- quotients
-- a number above 0 has a natural numerator above 0
natural_num : (x : ℚ) (z : ℤ) → x.num ≡ z → number 0 <ℚ x → (up z ≡ unsigned_abs z) × (down z ≡ 0) × (0 < unsigned_abs z)
natural_num x (pos (suc n)) e h = (refl, refl, omega arith)
natural_num x (pos zero) e h = absurd (above_not_zero x h (zero_num x e))
natural_num x (negsuc n) e h =
    absurd (<ℚ_not-≤ℚ _ _ h (≤ℚ_in _ _ _ _ _ _ _ _ (own_ratio x) (whole_ratio (pos 0)) (let f = ap up e in let g = ap down e in omega arith)))

-- a number above 0, in its own terms
pub above_ratio : (x : ℚ) → number 0 <ℚ x → IsRatio x (unsigned_abs x.num) 0 x.den
above_ratio x h =
    let n = natural_num x x.num refl h in
    rebase x _ _ _ _ _ _ (own_ratio x) x.positive (let e = n.0 in let f = n.1 in rw (e, f) (omega arith))

-- the quotient of two fractions, the divisor above 0
pub quotient_terms : (x y : ℚ) (p d q e : ℕ) → IsRatio x p 0 d → IsRatio y q 0 e → 0 < q → IsRatio (x /ℚ y) (p * e) 0 (d * q)
quotient_terms x y p d q e h k l =
    let some : y ≡ number 0 → ⊥ = λ z. (let m = ≤ℚ_out _ _ _ _ _ _ _ _ k (whole_ratio (pos 0)) (rw z (≤ℚ_refl (number 0))) in absurd (omega arith)) in
    let above : 0 < d * q = mul-pos h.above l in
    let is : x /ℚ y ≡ over (pos (p * e)) (d * q) =
    *ℚ_cancel _ _ y some (quotient_times x y some ∙ same_ratio _ _ _ _ _ _ _ _ h (product_ratio _ _ _ _ _ _ _ _ (over_ratio (pos (p * e)) (d * q) above) k) (omega arith)) in
    rw is (over_ratio (pos (p * e)) (d * q) above)
