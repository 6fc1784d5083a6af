-- What the two comparisons of a cycle say.
use Rattle.std.proofs.Common.{◌≡◌, Bool, true, false, true≢false, IsTrue, ◌↔◌, sym, ◌∙◌, subst}
use Rattle.std.specs.Ordering.{is_le}
use Rattle.rational_theory.specs.Rational.{ℚ, ◌≤ℚ◌}
use Rattle.rational_theory.specs.Compare.{cmp_ℚ}
use Rattle.rational_theory.proofs.Compare.{le_says}
use Rattle.progression.specs.Street.{Street}
use Rattle.progression.specs.declared.parts.Pair.{Pair}
use Rattle.cycle_sweep.specs.Rows.{IsAllowed}

module _ (a : Street) (limits : Pair) (cycle : ℚ) (first : Bool) (same : limits ≡ a.head.cycle) (low : first ≡ is_le (cmp_ℚ limits.least cycle)) where
  -- the second decides
  pub second_says : (second : Bool) → second ≡ is_le (cmp_ℚ cycle limits.most) → first ≡ true → IsTrue second ↔ IsAllowed a cycle
  second_says second high t =
      let least = le_says limits.least cycle first low in
      let most = le_says cycle limits.most second high in (
        λ s. (subst (λ (p : Pair). p.least ≤ℚ cycle) same (least.0 t), subst (λ (p : Pair). cycle ≤ℚ p.most) same (most.0 s)),
        λ (h : IsAllowed a cycle). most.1 (subst (λ (p : Pair). cycle ≤ℚ p.most) (sym same) h.1),
      )

  -- the first alone decides
  pub first_says : first ≡ false → IsTrue first ↔ IsAllowed a cycle
  first_says f =
      let least = le_says limits.least cycle first low in
      (λ t. absurd (true≢false (sym t ∙ f)), λ (h : IsAllowed a cycle). least.1 (subst (λ (p : Pair). p.least ≤ℚ cycle) (sym same) h.0))
