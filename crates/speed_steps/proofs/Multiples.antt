-- The multiples of a step next to a run.
use Rattle.std.proofs.Common.{◌≡◌, ℤ, pos, negsuc, ◌+ℤ◌, ◌≤ℤ◌, refl, sym, ◌∙◌, ap, subst, arith, [], ◌∷◌}
use Rattle.std.proofs.lemmas.Int.{ints}
use Rattle.rational_theory.specs.Rational.{ℚ, whole, ◌+ℚ◌, ◌*ℚ◌, ◌/ℚ◌, ◌≤ℚ◌, ◌<ℚ◌}
use Rattle.rational_theory.specs.Floor.{floor_ℚ, ceil_ℚ}
use Rattle.rational_theory.proofs.Floor.{floor_is, ceil_is}
use Rattle.rational_theory.proofs.Order.{≤ℚ-*ℚ, <ℚ-≤ℚ, <ℚ_not-≤ℚ, not-≤ℚ, whole-+ℤ, above_not_zero}
use Rattle.rational_theory.proofs.Ring.{+ℚ-*ℚ, one-*ℚ, at, lit, ◌⊕◌}
use Rattle.rational_theory.proofs.Linear.{linear, Fact}
use Rattle.rational_theory.proofs.Shares.{≤ℚ_cancel, quotient_times}
use Rattle.speed_steps.specs.Steps.{shorter, longer}

-- a summand on both sides left out
less_both : (x y z : ℚ) → (x +ℚ z) ≤ℚ (y +ℚ z) → x ≤ℚ y
less_both x y z h = linear (record { count = 1; low = at 0 ⊕ at 2; high = at 1 ⊕ at 2 } ∷ []) 0 (at 0) (at 1) (x ∷ y ∷ z ∷ []) (h, tt) refl

-- nothing added is no less
no_less : (x z : ℚ) → (x +ℚ z) ≤ℚ x → z ≤ℚ whole (pos 0)
no_less x z h = linear (record { count = 1; low = at 0 ⊕ at 1; high = at 0 } ∷ []) 0 (at 1) (lit (pos 0)) (x ∷ z ∷ []) (h, tt) refl

below_next : (z : ℤ) → (z +ℤ pos 1) ≤ℤ z → ⊥
below_next z h = omega (arith, ints, h)

above_last : (z : ℤ) → z ≤ℤ (z +ℤ negsuc 0) → ⊥
above_last z h = omega (arith, ints, h)

module _ (step : ℚ) (above : whole (pos 0) <ℚ step) where
  some : step ≡ whole (pos 0) → ⊥
  some = above_not_zero step above

  least : whole (pos 0) ≤ℚ step
  least = <ℚ-≤ℚ (whole (pos 0)) step above

  back : (run : ℚ) → run /ℚ step *ℚ step ≡ run
  back run = quotient_times run step some

  -- one more multiple
  next : (n : ℤ) → whole (n +ℤ pos 1) *ℚ step ≡ whole n *ℚ step +ℚ step
  next n = ap (λ t. t *ℚ step) (whole-+ℤ n (pos 1)) ∙ +ℚ-*ℚ (whole n) (whole (pos 1)) step ∙ ap (λ t. whole n *ℚ step +ℚ t) (one-*ℚ step)

  pub shorter_most : (run : ℚ) → shorter step run ≤ℚ run
  shorter_most run =
      let h : whole (floor_ℚ (run /ℚ step)) ≤ℚ (run /ℚ step) = (floor_is (floor_ℚ (run /ℚ step)) (run /ℚ step)).1 (omega (arith, ints)) in
      subst (λ t. shorter step run ≤ℚ t) (back run) (≤ℚ-*ℚ (whole (floor_ℚ (run /ℚ step))) (run /ℚ step) step h least)

  pub longer_least : (run : ℚ) → run ≤ℚ longer step run
  longer_least run =
      let h : (run /ℚ step) ≤ℚ whole (ceil_ℚ (run /ℚ step)) = (ceil_is (ceil_ℚ (run /ℚ step)) (run /ℚ step)).1 (omega (arith, ints)) in
      subst (λ t. t ≤ℚ longer step run) (back run) (≤ℚ-*ℚ (run /ℚ step) (whole (ceil_ℚ (run /ℚ step))) step h least)

  -- a multiple that is at most the run is at most the greatest, and one that is at least the run at least the least
  floor_most : (n : ℤ) (run : ℚ) → (whole n *ℚ step) ≤ℚ run → n ≤ℤ floor_ℚ (run /ℚ step)
  floor_most n run h =
      (floor_is n (run /ℚ step)).0 (≤ℚ_cancel (whole n) (run /ℚ step) step least some (subst (λ t. (whole n *ℚ step) ≤ℚ t) (sym (back run)) h))

  ceil_least : (n : ℤ) (run : ℚ) → run ≤ℚ (whole n *ℚ step) → ceil_ℚ (run /ℚ step) ≤ℤ n
  ceil_least n run h =
      (ceil_is n (run /ℚ step)).0 (≤ℚ_cancel (run /ℚ step) (whole n) step least some (subst (λ t. t ≤ℚ (whole n *ℚ step)) (sym (back run)) h))

  pub shorter_near : (run : ℚ) → run <ℚ (shorter step run +ℚ step)
  shorter_near run = not-≤ℚ run (shorter step run +ℚ step) (λ h.
      below_next (floor_ℚ (run /ℚ step))
      (floor_most (floor_ℚ (run /ℚ step) +ℤ pos 1) run (subst (λ t. t ≤ℚ run) (sym (next (floor_ℚ (run /ℚ step)))) h)))

  -- the multiple before
  last : (n : ℤ) → whole n *ℚ step ≡ whole (n +ℤ negsuc 0) *ℚ step +ℚ step
  last n = ap (λ z. whole z *ℚ step) (omega (arith, ints)) ∙ next (n +ℤ negsuc 0)

  pub longer_near : (run : ℚ) → longer step run <ℚ (run +ℚ step)
  longer_near run = not-≤ℚ (longer step run) (run +ℚ step) (λ h.
      let n = ceil_ℚ (run /ℚ step) in
      above_last n
      (ceil_least (n +ℤ negsuc 0) run (less_both run (whole (n +ℤ negsuc 0) *ℚ step) step (subst (λ t. (run +ℚ step) ≤ℚ t) (last n) h))))

  -- more than the run itself, also where the run is less
  pub same_near : (run : ℚ) → run <ℚ (run +ℚ step)
  same_near run = not-≤ℚ run (run +ℚ step) (λ h. <ℚ_not-≤ℚ (whole (pos 0)) step above (no_less run step h))

  pub more_near : (run other : ℚ) → run ≤ℚ other → run <ℚ (other +ℚ step)
  more_near run other h = not-≤ℚ run (other +ℚ step) (λ k. <ℚ_not-≤ℚ (whole (pos 0)) step above (no_more run other step h k))
    where
      no_more : (x y z : ℚ) → x ≤ℚ y → (y +ℚ z) ≤ℚ x → z ≤ℚ whole (pos 0)
      no_more x y z a b =
          linear (record { count = 1; low = at 0; high = at 1 } ∷ record { count = 1; low = at 1 ⊕ at 2; high = at 0 } ∷ []) 0 (at 2) (lit (pos 0)) (x ∷ y ∷ z ∷ []) (a, (b, tt)) refl
