-- The unit is a multiple of every column's denominator, in parts.
use Rattle.std.proofs.Common.{◌≡◌, ℕ, zero, suc, ◌<◌, ◌≤◌, ◌⊎◌, inl, inr, List, length, true, false, refl, sym, subst, arith}
use Rattle.std.specs.Prelude.{if◌then◌else◌, ◌==◌}
use Rattle.std.proofs.lemmas.Bool.Decides.{nat_tests}
use Rattle.rational_theory.specs.Gcd.{lcm}
use Rattle.rational_theory.specs.Rational.{ℚ}
use Rattle.rational_theory.proofs.Multiples.{IsMultiple, multiple_on, lcm_first, lcm_second, lcm_above}
use Rattle.progression.specs.Street.{Street}
use Rattle.recovery_theory.specs.Ticks.{in_parts, common, unit_of}

module _ (a : Street) (x : List ℚ) where
  pub common_above : (k : ℕ) → 0 < common a x k
  unfolding common
  common_above zero = omega arith
  common_above (suc k) = lcm_above (common a x k) (in_parts a x k).den (common_above k) (in_parts a x k).positive

  last_or_before : (j k : ℕ) → j < suc k → (j ≡ k) ⊎ (j < k)
  last_or_before j k h = grind arith

  -- of each column among the first k
  common_multiple : (j k : ℕ) → j < k → IsMultiple (common a x k) (in_parts a x j).den
  unfolding common
  common_multiple j zero h = absurd (omega arith)
  common_multiple j (suc k) h = elim (last_or_before j k h) [
    | inl e ↦ subst (λ i. IsMultiple (lcm (common a x k) (in_parts a x k).den) (in_parts a x i).den) (sym e) (lcm_second (common a x k) (in_parts a x k).den)
    | inr l ↦ multiple_on (lcm_first (common a x k) (in_parts a x k).den (in_parts a x k).positive) (common_multiple j k l)
  ]

  -- the unit is two ticks or more, and a multiple of the least common denominator
  two_or : (d : ℕ) → 0 < d → (2 ≤ (if d == 1 then 2 else d)) × IsMultiple (if d == 1 then 2 else d) d
  two_or d h = elim (d == 1) as (λ b. (d == 1) ≡ b → (2 ≤ (if b then 2 else d)) × IsMultiple (if b then 2 else d) d) [
    | true ↦ λ e. let f : d ≡ 1 = grind (arith, nat_tests) in (omega arith, record { times = 2; is = omega arith })
    | false ↦ λ e. let f : 2 ≤ d = grind (arith, nat_tests) in (f, record { times = 1; is = omega arith })
  ] refl

  pub unit_least : 2 ≤ unit_of a x
  unfolding unit_of
  unit_least = (two_or (common a x (length x)) (common_above (length x))).0

  pub unit_multiple : (j : ℕ) → j < length x → IsMultiple (unit_of a x) (in_parts a x j).den
  unfolding unit_of
  unit_multiple j h = multiple_on (two_or (common a x (length x)) (common_above (length x))).1 (common_multiple j (length x) h)
