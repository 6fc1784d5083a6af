-- Ticks and parts over the cycle, as fractions with one denominator.
use Rattle.std.proofs.Common.{◌≡◌, ℕ, zero, suc, pos, ◌*◌, ◌<◌, ◌≤◌, refl, arith, mul-pos, zero-lt-suc, mul-le-mul_right}
use Rattle.rational_theory.specs.Rational.{whole, over, inverse_ℚ, ◌/ℚ◌, ◌≤ℚ◌}
use Rattle.rational_theory.proofs.Arithmetic.{IsRatio, over_ratio, rebase, product_ratio, whole_ratio, same_ratio, ≤ℚ_in, *ℚ-zero}
use Rattle.progression.specs.Street.{Street}
use Rattle.progression.specs.Speeds.{number}
use Rattle.progression.specs.TimingRecord.{TimingRecord, base}
use Rattle.progression.specs.BaseRecord.{cycle}
use Rattle.linear_theory.specs.Blocks.{part}
use Rattle.linear_theory.proofs.Points.{share}

-- one over a natural number
inverse_number : (d : ℕ) → inverse_ℚ (number d) ≡ over (pos 1) d
unfolding inverse_ℚ whole
inverse_number d = refl

-- a quotient of natural numbers, in these terms
pub quotient_ratio : (n d : ℕ) → 0 < d → IsRatio (number n /ℚ number d) n 0 d
quotient_ratio n d h =
    rw (inverse_number d) (rebase _ _ _ _ _ _ _ (product_ratio (number n) (over (pos 1) d) _ _ _ _ _ _ (whole_ratio (pos n)) (over_ratio (pos 1) d h)) h (omega arith))

-- over 0
number_over_zero : (n : ℕ) → number n /ℚ number 0 ≡ over (pos n) 0
unfolding over
number_over_zero n = rw (inverse_number 0) (*ℚ-zero (number n))

-- it is the fraction in lowest terms, and 0 where the divisor is
pub number_over : (n d : ℕ) → number n /ℚ number d ≡ over (pos n) d
number_over n zero = number_over_zero n
number_over n (suc d) = same_ratio _ _ _ _ _ _ _ _ (quotient_ratio n (suc d) (zero-lt-suc d)) (over_ratio (pos n) (suc d) (zero-lt-suc d)) (omega arith)

-- some parts of the cycle, in parts
pub part_ratio : (a : Street) → 0 < a.head.parts → (r : ℕ) → IsRatio (part a r) r 0 a.head.parts
part_ratio a h r = quotient_ratio r a.head.parts h

module _ (a : Street) (t : TimingRecord) (p : 0 < a.head.parts) (u : 0 < t.unit) where
  -- the cycle has ticks
  pub cycle_above : 0 < cycle a (base t)
  cycle_above = mul-pos p u

  -- some ticks over the cycle
  pub ticked : (k : ℕ) → IsRatio (share a t k) k 0 (cycle a (base t))
  ticked k = quotient_ratio k (cycle a (base t)) cycle_above

  -- some parts over the cycle, in ticks
  pub parted : (r : ℕ) → IsRatio (part a r) (r * t.unit) 0 (cycle a (base t))
  parted r = rebase _ _ _ _ _ _ _ (quotient_ratio r a.head.parts p) cycle_above (omega arith)

  -- parts are a share of as many units
  pub share_part : (r : ℕ) → share a t (r * t.unit) ≡ part a r
  share_part r = same_ratio _ _ _ _ _ _ _ _ (ticked (r * t.unit)) (parted r) (omega arith)

  -- no share is below 0
  pub share_not_negative : (k : ℕ) → number 0 ≤ℚ share a t k
  share_not_negative k = ≤ℚ_in _ _ _ _ _ _ _ _ (whole_ratio (pos 0)) (ticked k) (omega arith)

-- more parts are a greater fraction
pub part_grows : (a : Street) (m n : ℕ) → 0 < a.head.parts → m ≤ n → part a m ≤ℚ part a n
part_grows a m n p h =
    ≤ℚ_in _ _ _ _ _ _ _ _ (quotient_ratio m a.head.parts p) (quotient_ratio n a.head.parts p) (let e = mul-le-mul_right a.head.parts h in omega (arith, e))
