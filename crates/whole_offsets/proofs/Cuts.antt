-- A cut makes no band wider.
use Rattle.std.proofs.Common.{◌≡◌, ℕ, pos, ◌≤◌, refl, ap, arith, inl, inr, true, false}
use Rattle.std.specs.Prelude.{min, Bool}
use Rattle.std.proofs.lemmas.Bool.{cases_lt, cases_eq}
use Rattle.rational_theory.specs.Rational.{ℚ}
use Rattle.rational_theory.proofs.Order.{not-≤ℚ}
use Rattle.rational_theory.proofs.Arithmetic.{IsRatio, same_ratio, whole_ratio, ≤ℚ_out}
use Rattle.progression.specs.Street.{Street}
use Rattle.band_measure.specs.Cut.{IsCutByRatio, IsCut}
use Rattle.band_measure.specs.declared.bands.Bands.{Bands}
use Rattle.band_measure.proofs.Parts.{as_ratio}

-- neither is wider
pub record IsWithin (b c : Bands) : Type 0 where
  pub out : c.outbound ≤ b.outbound
  pub back : c.inbound ≤ b.inbound

within_same : (b c : Bands) → c ≡ b → IsWithin b c
within_same b c e =
    let out : c.outbound ≡ b.outbound = ap (λ (s : Bands). s.outbound) e in
    let back : c.inbound ≡ b.inbound = ap (λ (s : Bands). s.inbound) e in record { out = omega arith; back = omega arith }

within_out : (b c : Bands) (m : ℕ) → c ≡ record { outbound = min b.outbound m; inbound = b.inbound } → IsWithin b c
within_out b c m e =
    let out : c.outbound ≡ min b.outbound m = ap (λ (s : Bands). s.outbound) e in
    let back : c.inbound ≡ b.inbound = ap (λ (s : Bands). s.inbound) e in record { out = omega arith; back = omega arith }

within_in : (b c : Bands) (m : ℕ) → c ≡ record { outbound = b.outbound; inbound = min b.inbound m } → IsWithin b c
within_in b c m e =
    let out : c.outbound ≡ b.outbound = ap (λ (s : Bands). s.outbound) e in
    let back : c.inbound ≡ min b.inbound m = ap (λ (s : Bands). s.inbound) e in record { out = omega arith; back = omega arith }

within_both : (b c : Bands) → c ≡ record { outbound = min b.outbound b.inbound; inbound = min b.outbound b.inbound } → IsWithin b c
within_both b c e =
    let out : c.outbound ≡ min b.outbound b.inbound = ap (λ (s : Bands). s.outbound) e in
    let back : c.inbound ≡ min b.outbound b.inbound = ap (λ (s : Bands). s.inbound) e in record { out = omega arith; back = omega arith }

module _ (k : ℚ) (n : ℕ) (e : pos n ≡ k.num) (b c : Bands) (h : IsCutByRatio k b c) where
  is_ratio : IsRatio k n 0 k.den
  is_ratio = as_ratio k n e

  by_ratio : IsWithin b c
  by_ratio = elim (cases_eq n 0) [
    | inl z ↦ within_same b c (h.else (inl (same_ratio _ _ _ _ _ _ _ _ is_ratio (whole_ratio (pos 0)) (omega arith))))
    | inr z ↦ elim (cases_lt n k.den) [
      | inl l ↦ within_out b c _ (h.below
          (not-≤ℚ _ _ (λ w. let f = ≤ℚ_out _ _ _ _ _ _ _ _ is_ratio (whole_ratio (pos 0)) w in absurd (omega (arith, f))))
          (not-≤ℚ _ _ (λ w. let f = ≤ℚ_out _ _ _ _ _ _ _ _ (whole_ratio (pos 1)) is_ratio w in absurd (omega (arith, f)))))
      | inr l ↦ elim (cases_eq n k.den) [
        | inl s ↦ within_same b c (h.else (inr (same_ratio _ _ _ _ _ _ _ _ is_ratio (whole_ratio (pos 1)) (omega arith))))
        | inr s ↦ within_in b c _ (h.above (not-≤ℚ _ _ (λ w. let f = ≤ℚ_out _ _ _ _ _ _ _ _ is_ratio (whole_ratio (pos 1)) w in absurd (omega (arith, f)))))
      ]
    ]
  ]

by_equal : (a : Street) (n : ℕ) → pos n ≡ a.head.ratio.num → (b c : Bands) → IsCut a b c → (v : Bool) → a.head.equal ≡ v → IsWithin b c
by_equal a n e b c h true is = within_both b c (h.equal is)
by_equal a n e b c h false is = by_ratio a.head.ratio n e b c (h.ratio is)

pub cut_within : (a : Street) (n : ℕ) → pos n ≡ a.head.ratio.num → (b c : Bands) → IsCut a b c → IsWithin b c
cut_within a n e b c h = by_equal a n e b c h a.head.equal refl
