-- Columns that stand side by side are tested and listed wherever their places come from.
use Rattle.std.proofs.Common.{◌≡◌, ℕ, zero, suc, ◌+◌, ◌-◌, ◌<◌, ◌≤◌, List, ◌∷◌, refl, ap, ap₂, arith}
use Rattle.rational_theory.specs.Rational.{ℚ}
use Rattle.narrow_fraction.proofs.Attempt.{first_same}
use Rattle.progression.specs.Street.{Street, count, HasLink}
use Rattle.progression.specs.Columns.{numbered}
use Rattle.recovery_theory.specs.Ticks.{ticks_in}
use Rattle.offset_recovery.specs.Tests.{number_test}
use Rattle.offset_recovery.specs.ByLink.{tests_by_link, ticks_by_link}

numbered_same : {X : Type 0} (f g : ℕ → X) (n i : ℕ) → ((k : ℕ) → i ≤ k → k < i + n → f k ≡ g k) → numbered n i f ≡ numbered n i g
numbered_same f g zero i h = refl
numbered_same f g (suc n) i h = ap₂ (λ x xs. x ∷ xs) (h i (omega arith) (omega arith)) (numbered_same f g n (i + 1) (λ k l m. h k (omega arith) (omega arith)))

module _ (a : Street) (x : List ℚ) (at there : ℕ → ℕ) (same : (i : ℕ) → HasLink a i → at i ≡ there i) where
  pub tests_same : tests_by_link a x at ≡ tests_by_link a x there
  tests_same =
      first_same (λ j. number_test (at (j + 1)) (ticks_in a x (at (j + 1)))) (λ j. number_test (there (j + 1)) (ticks_in a x (there (j + 1)))) (count a - 1)
      (λ k l. ap (λ n. number_test n (ticks_in a x n)) (same (k + 1) (omega arith, omega arith)))

  pub ticks_same : ticks_by_link a x at ≡ ticks_by_link a x there
  ticks_same = numbered_same (λ i. ticks_in a x (at i)) (λ i. ticks_in a x (there i)) (count a - 1) 1 (λ k l m. ap (ticks_in a x) (same k (omega arith, omega arith)))
