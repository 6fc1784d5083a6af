-- Rational numbers over one denominator c, as sums of ticks over the cycle: each is (p - n) / c for naturals p and n.
use Rattle.std.proofs.Common.{◌≡◌, ℕ, pos, ◌+◌, ◌<◌, ◌≤◌, ◌⊎◌, inl, inr, ◌∙◌, ap, subst, arith, mul-le-mul_right}
use Rattle.rational_theory.specs.Rational.{ℚ, whole, ◌+ℚ◌, ◌*ℚ◌, ◌-ℚ◌, ◌/ℚ◌, neg_ℚ, inverse_ℚ, ◌≤ℚ◌}
use Rattle.rational_theory.proofs.Arithmetic.{IsRatio, rebase, sum_ratio, product_ratio, neg_ratio, whole_ratio, ≤ℚ_in}
use Rattle.rational_theory.proofs.Arithmetic.{*ℚ_assoc, *ℚ_comm, *ℚ-one}
use Rattle.rational_theory.proofs.Order.{≤ℚ_refl, ≤ℚ_total, ≤ℚ_antisymm, ≤ℚ-*ℚ, *ℚ_cancel, *ℚ-inverse}

module _ (c : ℕ) (h : 0 < c) where
  pub nothing : IsRatio (whole (pos 0)) 0 0 c
  nothing = rebase _ _ _ _ _ _ _ (whole_ratio (pos 0)) h (omega arith)

  pub one_cycle : IsRatio (whole (pos 1)) c 0 c
  one_cycle = rebase _ _ _ _ _ _ _ (whole_ratio (pos 1)) h (omega arith)

  pub joined_ticks : (x y : ℚ) (p n q m : ℕ) → IsRatio x p n c → IsRatio y q m c → IsRatio (x +ℚ y) (p + q) (n + m) c
  joined_ticks x y p n q m k l = rebase _ _ _ _ _ _ _ (sum_ratio x y _ _ _ _ _ _ k l) h (omega arith)

  pub less_ticks : (x y : ℚ) (p n q m : ℕ) → IsRatio x p n c → IsRatio y q m c → IsRatio (x -ℚ y) (p + m) (n + q) c
  less_ticks x y p n q m k l = joined_ticks x (neg_ℚ y) p n m q k (neg_ratio y q m c l)

  pub once : (x : ℚ) (p n : ℕ) → IsRatio x p n c → IsRatio (whole (pos 1) *ℚ x) p n c
  once x p n k = rebase _ _ _ _ _ _ _ (product_ratio _ x _ _ _ _ _ _ (whole_ratio (pos 1)) k) h (omega arith)

  pub at_most_ticks : (x y : ℚ) (p n q m : ℕ) → IsRatio x p n c → IsRatio y q m c → p + m ≤ n + q → x ≤ℚ y
  at_most_ticks x y p n q m k l w = ≤ℚ_in x y p n c q m c k l (let e = mul-le-mul_right c w in omega (arith, e))

-- an order that holds of multiples
pub ≤ℚ_cancel : (x y k : ℚ) → whole (pos 0) ≤ℚ k → (k ≡ whole (pos 0) → ⊥) → (x *ℚ k) ≤ℚ (y *ℚ k) → x ≤ℚ y
≤ℚ_cancel x y k p n h = pick (≤ℚ_total x y)
  where
    pick : (x ≤ℚ y) ⊎ (y ≤ℚ x) → x ≤ℚ y
    pick (inl l) = l
    pick (inr g) = subst (λ t. x ≤ℚ t) (*ℚ_cancel x y k n (≤ℚ_antisymm _ _ h (≤ℚ-*ℚ y x k g p))) (≤ℚ_refl x)

-- a quotient times its divisor
pub quotient_times : (x k : ℚ) → (k ≡ whole (pos 0) → ⊥) → x /ℚ k *ℚ k ≡ x
quotient_times x k n = *ℚ_assoc x (inverse_ℚ k) k ∙ ap (λ t. x *ℚ t) (*ℚ_comm (inverse_ℚ k) k ∙ *ℚ-inverse k n) ∙ *ℚ-one x
