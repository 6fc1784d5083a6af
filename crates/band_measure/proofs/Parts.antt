-- The whole part of a number of at least 0.
use Rattle.std.proofs.Common.{◌≡◌, ℕ, suc, pos, negsuc, ◌≤ℤ◌, ◌*◌, ◌/◌, ◌≤◌, arith, le-div_iff_mul-le, unsigned_abs, ℤ}
use Rattle.std.proofs.lemmas.Int.{ints}
use Rattle.rational_theory.specs.Rational.{ℚ, inverse_ℚ, turned, ◌*ℚ◌, ◌/ℚ◌}
use Rattle.rational_theory.specs.Floor.{floor_ℚ}
use Rattle.rational_theory.proofs.Floor.{floor_is}
use Rattle.rational_theory.proofs.Arithmetic.{IsRatio, whole_ratio, over_ratio, product_ratio, rebase, ≤ℚ_in, ≤ℚ_out}
use Rattle.progression.specs.Speeds.{number}
use Rattle.band_measure.specs.Cut.{whole_part}

-- between two whole numbers
pinned : (z : ℤ) (q : ℕ) → pos q ≤ℤ z → (pos (suc q) ≤ℤ z → ⊥) → unsigned_abs z ≡ q
pinned (pos n) q l m = pick n q (omega (arith, ints)) (λ k. m (omega (arith, ints)))
  where
    pick : (n q : ℕ) → q ≤ n → (suc q ≤ n → ⊥) → n ≡ q
    pick n q l m = grind arith
pinned (negsuc n) q l m = absurd (omega (arith, ints))

-- the whole part of a quotient of natural numbers
pub part_of : (x : ℚ) (p d : ℕ) → IsRatio x p 0 d → whole_part x ≡ p / d
part_of x p d r =
    pinned (floor_ℚ x) (p / d)
    ((floor_is (pos (p / d)) x).0 (≤ℚ_in _ _ _ _ _ _ _ _ (whole_ratio (pos (p / d))) r (let e = (le-div_iff_mul-le r.above).0 (self (p / d)) in omega (arith, e))))
    (λ h. let c = ≤ℚ_out _ _ _ _ _ _ _ _ (whole_ratio (pos (suc (p / d)))) r ((floor_is (pos (suc (p / d))) x).1 h) in
    let e : suc (p / d) ≤ p / d = (le-div_iff_mul-le r.above).1 (omega (arith, c)) in absurd (omega (arith, e)))
  where
    self : (n : ℕ) → n ≤ n
    self n = omega arith

pub as_ratio : (k : ℚ) (n : ℕ) → pos n ≡ k.num → IsRatio k n 0 k.den
as_ratio k n e = record { above = k.positive; ratio = rw (← e) (omega arith) }

turned_ratio : (z : ℤ) (n d : ℕ) → pos n ≡ z → 1 ≤ n → IsRatio (turned z d) d 0 n
turned_ratio (pos m) n d e p = let f : n ≡ m = omega (arith, ints, e) in rw f (over_ratio (pos d) m (omega (arith, f)))
turned_ratio (negsuc m) n d e p = absurd (omega (arith, ints, e))

pub inverse_of : (k : ℚ) (n : ℕ) → pos n ≡ k.num → 1 ≤ n → IsRatio (inverse_ℚ k) k.den 0 n
unfolding inverse_ℚ
inverse_of k n e p = turned_ratio k.num n k.den e p

pub times_part : (k : ℚ) (n b : ℕ) → pos n ≡ k.num → whole_part (k *ℚ number b) ≡ b * n / k.den
times_part k n b e = part_of _ _ _ (rebase _ _ _ _ (b * n) 0 k.den (product_ratio k (number b) _ _ _ _ _ _ (as_ratio k n e) (whole_ratio (pos b))) k.positive (omega arith))

pub over_part : (k : ℚ) (n b : ℕ) → pos n ≡ k.num → 1 ≤ n → whole_part (number b /ℚ k) ≡ b * k.den / n
over_part k n b e p = part_of _ _ _ (rebase _ _ _ _ (b * k.den) 0 n (product_ratio (number b) (inverse_ℚ k) _ _ _ _ _ _ (whole_ratio (pos b)) (inverse_of k n e p)) p (omega arith))
