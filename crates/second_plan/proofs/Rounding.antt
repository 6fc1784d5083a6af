-- Rounding: what the quotient, its remainder and the limits say.
use Rattle.std.proofs.Common.{◌≡◌, inl, inr, ℕ, suc, pos, ◌+◌, ◌-◌, ◌*◌, ◌/◌, ◌<◌, ◌≤◌, ap, arith, le-div_iff_mul-le, div-lt_iff_lt-mul}
use Rattle.std.specs.Prelude.{◌⊎◌, ◌↔◌}
use Rattle.std.proofs.Math.Nat.{mul-le-mul_right, le_of_mul-le-mul_right}
use Rattle.std.proofs.lemmas.Bool.{cases_lt}
use Rattle.std.proofs.lemmas.Int.{ints}
use Rattle.rational_theory.specs.Rational.{ℚ, ◌≤ℚ◌}
use Rattle.rational_theory.proofs.Arithmetic.{own_ratio, whole_ratio, ≤ℚ_in, ≤ℚ_out}
use Rattle.progression.specs.Speeds.{number}
use Rattle.second_plan.specs.Nearest.{apart, IsNearest, AnyNumber}

-- a multiple of d on either side of q * d
pub record Left (d q j : ℕ) : Type 0 where
  pub most : j ≤ q
  pub ticks : j * d ≤ q * d

pub record Right (d q j : ℕ) : Type 0 where
  pub least : suc q ≤ j
  pub ticks : q * d + d ≤ j * d

sides : (d q j : ℕ) → Left d q j ⊎ Right d q j
sides d q j = elim (cases_lt q j) [
  | inl l ↦ inr (record { least = omega arith; ticks = let e : (q + 1) * d ≤ j * d = mul-le-mul_right d (omega arith) in omega (arith, e) })
  | inr l ↦ inl (record { most = l; ticks = mul-le-mul_right d l })
]

-- the quotient is nearest where the remainder is at most half
nearest_below : (n d q r : ℕ) → 0 < d → n ≡ q * d + r → r ≤ d - r → r < d → IsNearest AnyNumber n d q
nearest_below n d q r p e h l = record {
  allowed = tt;
  nearest = λ j w. elim (sides d q j) [ inl s ↦ let t = s.ticks in omega arith | inr s ↦ let t = s.ticks in omega arith ];
  lesser = λ j w same. elim (sides d q j) [ inl s ↦ (let t = s.ticks in absurd_or q j d r n e l s same) | inr s ↦ let t = s.least in omega arith ];
}
  where
    absurd_or : (q j d r n : ℕ) → n ≡ q * d + r → r < d → Left d q j → apart (j * d) n ≡ apart (q * d) n → q ≤ j
    absurd_or q j d r n e l s same =
        let t = s.ticks in
        let back : q * d ≤ j * d = omega arith in
        le_of_mul-le-mul_right back (omega arith)

-- and the next number where it is more
nearest_above : (n d q r : ℕ) → 0 < d → n ≡ q * d + r → d - r < r → r < d → IsNearest AnyNumber n d (q + 1)
nearest_above n d q r p e h l =
    let next : (q + 1) * d ≡ q * d + d = omega arith in
    record {
      allowed = tt;
      nearest = λ j w. elim (sides d q j) [ inl s ↦ let t = s.ticks in omega (arith, next) | inr s ↦ let t = s.ticks in omega (arith, next) ];
      lesser = λ j w same. elim (sides d q j) [ inl s ↦ (let t = s.ticks in absurd (omega (arith, next, same))) | inr s ↦ let t = s.least in omega arith ];
    }

-- a number, its quotient and its remainder
module _ (n d : ℕ) (p : 0 < d) where
  pub rounds_down : n - n / d * d ≤ d - (n - n / d * d) → IsNearest AnyNumber n d (n / d)
  rounds_down h = nearest_below n d (n / d) (n - n / d * d) p (omega arith) h (omega arith)

  pub rounds_up : d - (n - n / d * d) < n - n / d * d → IsNearest AnyNumber n d (n / d + 1)
  rounds_up h = nearest_above n d (n / d) (n - n / d * d) p (omega arith) h (omega arith)

-- ---- limits
pub most_is : (x : ℚ) (n k : ℕ) → pos n ≡ x.num → (number k ≤ℚ x) ↔ (k ≤ n / x.den)
most_is x n k e = (
  (λ h. let c = ≤ℚ_out _ _ _ _ _ _ _ _ (whole_ratio (pos k)) (own_ratio x) h in (le-div_iff_mul-le x.positive).1 (omega (arith, ints, c, e))),
  (λ h. let c = (le-div_iff_mul-le x.positive).0 h in ≤ℚ_in _ _ _ _ _ _ _ _ (whole_ratio (pos k)) (own_ratio x) (omega (arith, ints, c, e))),
)

pub least_is : (x : ℚ) (n k : ℕ) → pos n ≡ x.num → 1 ≤ n → (x ≤ℚ number k) ↔ ((n - 1) / x.den + 1 ≤ k)
least_is x n k e p = (
  (λ h. let c = ≤ℚ_out _ _ _ _ _ _ _ _ (own_ratio x) (whole_ratio (pos k)) h in let l : (n - 1) / x.den < k = (div-lt_iff_lt-mul x.positive).1 (omega (arith, ints, c, e)) in omega (arith, l)),
  (λ h. let l : (n - 1) / x.den < k = omega arith in let c = (div-lt_iff_lt-mul x.positive).0 l in ≤ℚ_in _ _ _ _ _ _ _ _ (own_ratio x) (whole_ratio (pos k)) (omega (arith, ints, c, e))),
)

-- ---- the nearest within limits
abbrev pub Within : ℕ → ℕ → ℕ → Type 0
Within low high k = (low ≤ k) × (k ≤ high)

module _ (n d k low high : ℕ) (p : 0 < d) (s : low ≤ high) (h : IsNearest AnyNumber n d k) where
  pub nearest_at : low ≤ k → k ≤ high → IsNearest (Within low high) n d k
  nearest_at l m = record {
    allowed = (l, m);
    nearest = λ j w. h.nearest j tt;
    lesser = λ j w e. h.lesser j tt e;
  }

  pub nearest_low : k < low → IsNearest (Within low high) n d low
  nearest_low l =
      let one = h.nearest (k + 1) tt in
      let next : (k + 1) * d ≡ k * d + d = omega arith in
      let far : (k + 1) * d ≤ low * d = mul-le-mul_right d (omega arith) in
      let under : n ≤ low * d = omega (arith, next, far, one) in
      record {
        allowed = (omega arith, s);
        nearest = λ j w. let more = mul-le-mul_right d w.0 in omega (arith, under, more);
        lesser = λ j w e. w.0;
      }

  pub nearest_high : high < k → IsNearest (Within low high) n d high
  nearest_high l =
      let before = k - 1 in
      let is : before + 1 ≡ k = omega arith in
      let scaled = ap (λ v. v * d) is in
      let next : k * d ≡ before * d + d = omega (arith, scaled) in
      let one = h.nearest before tt in
      let far : high * d ≤ before * d = mul-le-mul_right d (omega arith) in
      let over : high * d ≤ n = omega (arith, next, far, one) in
      record {
        allowed = (s, omega arith);
        nearest = λ j w. let less = mul-le-mul_right d w.1 in omega (arith, over, less);
        lesser = λ j w e.
            let less = mul-le-mul_right d w.1 in
            let same : high * d ≤ j * d = omega (arith, over, less, e) in
            le_of_mul-le-mul_right same p;
      }
