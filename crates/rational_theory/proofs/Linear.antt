-- Linear arithmetic on rational numbers: a goal that is a sum of multiples of what is known.
use Rattle.std.proofs.Common.{◌≡◌, ℕ, pos, List, [], ◌∷◌, subst, arith}
use Rattle.std.proofs.lemmas.Int.{ints}
use Rattle.rational_theory.specs.Rational.{ℚ, whole, ◌+ℚ◌, ◌*ℚ◌, neg_ℚ, ◌≤ℚ◌}
use Rattle.rational_theory.proofs.Arithmetic.{+ℚ-zero, *ℚ-zero, +ℚ-neg}
use Rattle.rational_theory.proofs.Order.{≤ℚ_refl, ≤ℚ-+ℚ, whole-≤ℤ}
use Rattle.rational_theory.proofs.Rows.{≤ℚ-sum, ≤ℚ-left}
use Rattle.rational_theory.proofs.Ring.{ring, lit, minus, Term, value, normal, clean, ◌⊕◌, ◌⊗◌}

-- `low ≤ high`, taken `times` times
pub record Fact : Type 0 where
  pub count : ℕ
  pub low : Term
  pub high : Term

abbrev pub AllHold : List Fact → List ℚ → Type 0
AllHold [] ρ = Unit {0}
AllHold (h ∷ hs) ρ = (value h.low ρ ≤ℚ value h.high ρ) × AllHold hs ρ

abbrev pub gains : List Fact → Term
gains [] = lit (pos 0)
gains (h ∷ hs) = lit (pos h.count) ⊗ (h.high ⊕ minus h.low) ⊕ gains hs

pub gap_not_negative : (a b : ℚ) → a ≤ℚ b → whole (pos 0) ≤ℚ (b +ℚ neg_ℚ a)
gap_not_negative a b h = subst (λ t. t ≤ℚ (b +ℚ neg_ℚ a)) (+ℚ-neg a) (≤ℚ-+ℚ a b (neg_ℚ a) h)

pub sum_not_negative : (a b : ℚ) → whole (pos 0) ≤ℚ a → whole (pos 0) ≤ℚ b → whole (pos 0) ≤ℚ (a +ℚ b)
sum_not_negative a b h k = subst (λ t. t ≤ℚ (a +ℚ b)) (+ℚ-zero (whole (pos 0))) (≤ℚ-sum _ _ _ _ h k)

pub product_not_negative : (a b : ℚ) → whole (pos 0) ≤ℚ a → whole (pos 0) ≤ℚ b → whole (pos 0) ≤ℚ (a *ℚ b)
product_not_negative a b h k = subst (λ t. t ≤ℚ (a *ℚ b)) (*ℚ-zero a) (≤ℚ-left a (whole (pos 0)) b h k)

gains_not_negative : (hs : List Fact) (ρ : List ℚ) → AllHold hs ρ → whole (pos 0) ≤ℚ value (gains hs) ρ
gains_not_negative [] ρ p = ≤ℚ_refl (whole (pos 0))
gains_not_negative (h ∷ hs) ρ p =
    sum_not_negative _ _ (product_not_negative _ _ (whole-≤ℤ (pos 0) (pos h.count) (omega (arith, ints))) (gap_not_negative _ _ p.0)) (gains_not_negative hs ρ p.1)

-- the facts' gains and `slack` bring the low side to the high side
pub linear : (hs : List Fact) (slack : ℕ) (s t : Term) (ρ : List ℚ) → AllHold hs ρ
    → clean (normal (s ⊕ (gains hs ⊕ lit (pos slack)))) ≡ clean (normal t) → value s ρ ≤ℚ value t ρ
linear hs slack s t ρ p e =
    let g = sum_not_negative _ _ (gains_not_negative hs ρ p) (whole-≤ℤ (pos 0) (pos slack) (omega (arith, ints))) in
    let h = ≤ℚ-sum (value s ρ) (value s ρ) _ _ (≤ℚ_refl (value s ρ)) g in
    subst (λ u. value s ρ ≤ℚ u) (ring (s ⊕ (gains hs ⊕ lit (pos slack))) t ρ e) (subst (λ u. u ≤ℚ value (s ⊕ (gains hs ⊕ lit (pos slack))) ρ) (+ℚ-zero (value s ρ)) h)
