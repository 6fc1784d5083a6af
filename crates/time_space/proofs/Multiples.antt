-- Comparisons of rational numbers, both sides m times as large.
use Rattle.std.proofs.Common.{◌≡◌, ℕ, pos, [], ◌∷◌, ◌*◌, ◌<◌, ◌↔◌, arith, refl, ap, sym, ◌∙◌, Option, None, Some}
use Rattle.std.specs.Prelude.{IfSome}
use native.Mathlib.Nat.{le_of_mul-le-mul_right}
use Rattle.rational_theory.specs.Rational.{ℚ, whole, ◌*ℚ◌, ◌-ℚ◌, ◌≤ℚ◌}
use Rattle.rational_theory.proofs.Arithmetic.{own_ratio, whole_ratio, product_ratio, ≤ℚ_in, ≤ℚ_out, *ℚ_assoc}
use Rattle.rational_theory.proofs.Order.{≤ℚ-*ℚ, whole-*ℤ}
use Rattle.rational_theory.proofs.Ring.{ring, at, minus, ◌⊕◌, ◌⊗◌}
use Rattle.progression.specs.Speeds.{number}
use Rattle.progression.specs.Good.{RatioHolds}

number_times : (n m : ℕ) → number (n * m) ≡ number n *ℚ number m
number_times n m = whole-*ℤ (pos n) (pos m)

not_negative : (m : ℕ) → whole (pos 0) ≤ℚ number m
not_negative m = ≤ℚ_in _ _ _ _ _ _ _ _ (whole_ratio (pos 0)) (whole_ratio (pos m)) (omega arith)

smaller : (x y : ℚ) (m : ℕ) → 0 < m → (x *ℚ number m) ≤ℚ (y *ℚ number m) → x ≤ℚ y
smaller x y m q h =
    let e = ≤ℚ_out _ _ _ _ _ _ _ _ (product_ratio x (number m) _ _ _ _ _ _ (own_ratio x) (whole_ratio (pos m))) (product_ratio y (number m) _ _ _ _ _ _ (own_ratio y) (whole_ratio (pos m))) h in
    ≤ℚ_in _ _ _ _ _ _ _ _ (own_ratio x) (own_ratio y) (le_of_mul-le-mul_right (omega (arith, e)) q)

pub times_le : (x y : ℚ) (m : ℕ) → 0 < m → (x ≤ℚ y) ↔ ((x *ℚ number m) ≤ℚ (y *ℚ number m))
times_le x y m q = ((λ h. ≤ℚ-*ℚ x y (number m) h (not_negative m)), (λ h. smaller x y m q h))

pub limit_times : (x : ℚ) (g m : ℕ) → x *ℚ number (g * m) ≡ x *ℚ number g *ℚ number m
limit_times x g m = ap (λ t. x *ℚ t) (number_times g m) ∙ sym (*ℚ_assoc x (number g) (number m))

pub least_finer : (x : ℚ) (g n m : ℕ) → 0 < m → ((x *ℚ number g) ≤ℚ number n) ↔ ((x *ℚ number (g * m)) ≤ℚ number (n * m))
least_finer x g n m q = rw (limit_times x g m, number_times n m) (times_le (x *ℚ number g) (number n) m q)

pub most_finer : (x : ℚ) (g n m : ℕ) → 0 < m → (number n ≤ℚ (x *ℚ number g)) ↔ (number (n * m) ≤ℚ (x *ℚ number (g * m)))
most_finer x g n m q = rw (limit_times x g m, number_times n m) (times_le (number n) (x *ℚ number g) m q)

-- a difference of paces
pub apart_times : (r s : ℕ) (x y : ℚ) (m : ℕ) → number (r * m) *ℚ x -ℚ number (s * m) *ℚ y ≡ (number r *ℚ x -ℚ number s *ℚ y) *ℚ number m
apart_times r s x y m =
    rw (number_times r m, number_times s m)
    (ring ((at 0 ⊗ at 4) ⊗ at 2 ⊕ minus ((at 1 ⊗ at 4) ⊗ at 3)) ((at 0 ⊗ at 2 ⊕ minus (at 1 ⊗ at 3)) ⊗ at 4) (number r ∷ number s ∷ x ∷ y ∷ number m ∷ []) refl)

pub ratio_finer : (k : ℚ) (o i m : ℕ) → 0 < m → RatioHolds k o i ↔ RatioHolds k (o * m) (i * m)
ratio_finer k o i m q =
    let rest = number 1 -ℚ k in
    let left : rest *ℚ (k *ℚ (number o *ℚ number m)) ≡ rest *ℚ (k *ℚ number o) *ℚ number m =
    ring (at 0 ⊗ (at 1 ⊗ (at 2 ⊗ at 3))) ((at 0 ⊗ (at 1 ⊗ at 2)) ⊗ at 3) (rest ∷ k ∷ number o ∷ number m ∷ []) refl in
    let right : rest *ℚ (number i *ℚ number m) ≡ rest *ℚ number i *ℚ number m = sym (*ℚ_assoc rest (number i) (number m)) in
    rw (number_times o m, number_times i m, left, right) (times_le (rest *ℚ (k *ℚ number o)) (rest *ℚ number i) m q)

-- a fact about what is there
pub if_some_both : {X : Type 0} (o : Option X) (P Q : X → Type 0) → ((x : X) → P x ↔ Q x) → IfSome o P ↔ IfSome o Q
if_some_both None P Q f = ((λ h. h), (λ h. h))
if_some_both (Some x) P Q f = f x
