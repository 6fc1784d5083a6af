-- The value of a link timing from the widths of its bands.
use Rattle.std.proofs.Common.{◌≡◌, ℕ, ◌*◌, [], ◌∷◌, refl, ap}
use Rattle.std.specs.Prelude.{pos}
use Rattle.rational_theory.specs.Rational.{ℚ, ◌+ℚ◌, ◌*ℚ◌, ◌/ℚ◌}
use Rattle.rational_theory.proofs.Order.{whole-*ℤ}
use Rattle.rational_theory.proofs.Ring.{ring, at, ◌⊕◌, ◌⊗◌}
use Rattle.progression.specs.Speeds.{number}

twice : (n : ℕ) → number (2 * n) ≡ number 2 *ℚ number n
twice n = whole-*ℤ (pos 2) (pos n)

doubled : (k : ℚ) (o i : ℕ) → number (2 * o) +ℚ k *ℚ number (2 * i) ≡ number 2 *ℚ (number o +ℚ k *ℚ number i)
doubled k o i =
    rw (twice o, twice i)
    (ring (at 0 ⊗ at 1 ⊕ at 2 ⊗ (at 0 ⊗ at 3)) (at 0 ⊗ (at 1 ⊕ at 2 ⊗ at 3)) (number 2 ∷ number o ∷ k ∷ number i ∷ []) refl)

-- widths are twice the halves
pub value_is : (k : ℚ) (o i c : ℕ) → (number (2 * o) +ℚ k *ℚ number (2 * i)) /ℚ number c ≡ (number 2 *ℚ (number o +ℚ k *ℚ number i)) /ℚ number c
value_is k o i c = ap (λ x. x /ℚ number c) (doubled k o i)
