-- The weighted band as one quotient of natural numbers.
use Rattle.std.proofs.Common.{◌≡◌, ℕ, zero, suc, pos, ◌+◌, ◌*◌, ◌<◌, ◌≤◌, ◌^◌, ◌≤ℤ◌, arith, mul-pos}
use Rattle.std.proofs.lemmas.Int.{ints}
use Rattle.rational_theory.specs.Rational.{ℚ, whole, over, ◌+ℚ◌, ◌*ℚ◌, ◌/ℚ◌}
use Rattle.rational_theory.proofs.Arithmetic.{IsRatio, same_ratio, over_ratio, sum_ratio, product_ratio, whole_ratio}
use Rattle.progression.specs.Speeds.{number}
use Rattle.artery_model.specs.Bounds.{most_denominator, most_numerator}
use Rattle.time_space.proofs.Fractions.{inverse_ratio}
use Rattle.time_space.proofs.FinerGrids.{mul-le}

-- a quotient of natural numbers is at least 0
pub over_least : (n d : ℕ) → pos 0 ≤ℤ (over (pos n) d).num
unfolding over whole
over_least n zero = omega (arith, ints)
over_least n (suc d) = omega (arith, ints)

weighted_at : (k : ℚ) (n o i c : ℕ) → pos n ≡ k.num → 0 < c → over (pos (k.den * o + n * i)) (k.den * c) ≡ (number o +ℚ k *ℚ number i) /ℚ number c
weighted_at k n o i c e h =
    let bands = sum_ratio _ _ _ _ _ _ _ _ (whole_ratio (pos o)) (product_ratio k (number i) _ _ _ _ _ _ (positive_ratio k n e) (whole_ratio (pos i))) in
    same_ratio _ _ _ _ _ _ _ _
    (over_ratio (pos (k.den * o + n * i)) (k.den * c) (mul-pos k.positive h))
    (product_ratio _ _ _ _ _ _ _ _ bands (inverse_ratio c h))
    (omega arith)
  where
    positive_ratio : (v : ℚ) (m : ℕ) → pos m ≡ v.num → IsRatio v m 0 v.den
    positive_ratio v m f = record { above = v.positive; ratio = rw (← f) (omega arith) }

-- with the ratio's parts as they are read
pub weighted : (k : ℚ) (n d o i c : ℕ) → pos n ≡ k.num → d ≡ k.den → 0 < c → over (pos (d * o + n * i)) (d * c) ≡ (number o +ℚ k *ℚ number i) /ℚ number c
weighted k n d o i c e f h = rw f (weighted_at k n o i c e h)

-- the numerator of such a quotient fits
pub widths_fit : (d n o i : ℕ) → d ≤ most_denominator → n ≤ most_numerator → o < 2 ^ 92 → i < 2 ^ 92 → d * o + n * i < 2 ^ 127
widths_fit d n o i h k p q =
    let first : d * o ≤ 1000 * 2 ^ 92 = let below : o ≤ 2 ^ 92 = omega (arith, p) in mul-le h below in
    let second : n * i ≤ 100000 * 2 ^ 92 = let below : i ≤ 2 ^ 92 = omega (arith, q) in mul-le k below in
    omega (arith, first, second)

-- a denominator times a cycle
pub cycle_size : (d k : ℕ) → d ≤ most_denominator → k < 2 ^ 92 → d * k ≤ 2 ^ 120
cycle_size d k h p = let most : d * k ≤ 1000 * 2 ^ 92 = let below : k ≤ 2 ^ 92 = omega (arith, p) in mul-le h below in omega (arith, most)
