-- Lemmas on the definitions of `Floor`.
use Rattle.std.proofs.Common.{◌↔◌, ℕ, suc, ℤ, pos, negsuc, neg_ℤ, ◌≤ℤ◌, ◌+◌, ◌*◌, ◌/◌, ◌<◌, ◌≤◌, arith, le-div_iff_mul-le, div-lt_iff_lt-mul}
use Rattle.std.proofs.lemmas.Int.{ints}
use Rattle.std.specs.Int.{int_div_euclid}
use borrow.Author.Differences.{up, down}
use Rattle.rational_theory.specs.Rational.{ℚ, whole, neg_ℚ, ◌≤ℚ◌}
use Rattle.rational_theory.proofs.Order.{whole-neg_ℤ, neg-≤ℚ}
use Rattle.rational_theory.proofs.Arithmetic.{own_ratio, whole_ratio, ≤ℚ_in, ≤ℚ_out, neg-neg}
use Rattle.rational_theory.specs.Floor.{floor_ℚ, ceil_ℚ}

-- z * d ≤ a exactly where z ≤ a / d
pub down_out : (z a : ℤ) (d : ℕ) → 0 < d → up z * d + down a * 1 ≤ down z * d + up a * 1 → z ≤ℤ int_div_euclid a (pos d)
down_out (pos n) (pos a) d h k = let m : n ≤ a / d = (le-div_iff_mul-le h).1 (omega arith) in omega (arith, ints)
down_out (pos n) (negsuc a) d h k = absurd (omega arith)
down_out (negsuc n) (pos a) d h k = omega (arith, ints)
down_out (negsuc n) (negsuc a) d h k = let m : a / d < suc n = (div-lt_iff_lt-mul h).1 (omega arith) in omega (arith, ints)

-- and back
pub down_in : (z a : ℤ) (d : ℕ) → 0 < d → z ≤ℤ int_div_euclid a (pos d) → up z * d + down a * 1 ≤ down z * d + up a * 1
down_in (pos n) (pos a) d h k = let m : n * d ≤ a = (le-div_iff_mul-le h).0 (omega (arith, ints)) in omega arith
down_in (pos n) (negsuc a) d h k = absurd (omega (arith, ints))
down_in (negsuc n) (pos a) d h k = omega arith
down_in (negsuc n) (negsuc a) d h k = let m : a < suc n * d = (div-lt_iff_lt-mul h).0 (omega (arith, ints)) in omega arith

-- a whole number is at most x exactly where it is at most the floor of x
pub floor_is : (z : ℤ) (x : ℚ) → (whole z ≤ℚ x) ↔ (z ≤ℤ floor_ℚ x)
unfolding floor_ℚ
floor_is z x = (
  λ h. down_out z x.num x.den x.positive (omega (arith, ≤ℚ_out _ _ _ _ _ _ _ _ (whole_ratio z) (own_ratio x) h)),
  λ h. ≤ℚ_in _ _ _ _ _ _ _ _ (whole_ratio z) (own_ratio x) (omega (arith, down_in z x.num x.den x.positive h)),
)

-- x is at most a whole number exactly where its ceiling is
pub ceil_is : (z : ℤ) (x : ℚ) → (x ≤ℚ whole z) ↔ (ceil_ℚ x ≤ℤ z)
unfolding ceil_ℚ
ceil_is z x =
    let f = floor_is (neg_ℤ z) (neg_ℚ x) in (
      λ h. let k = f.0 (rw (whole-neg_ℤ z) (neg-≤ℚ x (whole z) h)) in omega (arith, ints),
      λ h. rw (← (neg-neg x), ← (neg-neg (whole z))) (neg-≤ℚ (neg_ℚ (whole z)) (neg_ℚ x) (rw whole-neg_ℤ at (f.1 (omega (arith, ints))))),
    )
