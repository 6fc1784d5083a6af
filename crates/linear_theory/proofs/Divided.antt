-- The rules of a good timing divided by its cycle, and by numbers above 0.
use Rattle.std.proofs.Common.{ℕ, pos, ◌*◌, ◌<◌, sym, ◌∙◌, subst, arith, ap, [], ◌∷◌, refl}
use Rattle.std.proofs.lemmas.Int.{ints}
use Rattle.rational_theory.specs.Rational.{ℚ, inverse_ℚ, ◌*ℚ◌, ◌/ℚ◌, ◌≤ℚ◌, ◌<ℚ◌}
use Rattle.rational_theory.proofs.Arithmetic.{*ℚ_comm, *ℚ_assoc}
use Rattle.rational_theory.proofs.Ring.{zero-*ℚ, ring, at, lit, ◌⊗◌}
use Rattle.rational_theory.proofs.Order.{≤ℚ_trans, ≤ℚ_antisymm, ≤ℚ-*ℚ, *ℚ_cancel, <ℚ-≤ℚ, *ℚ-inverse, above_not_zero, whole-≤ℤ, ≤ℤ_whole, not-≤ℚ}
use Rattle.rational_theory.proofs.Rows.{≤ℚ-left}
use Rattle.rational_theory.proofs.Linear.{product_not_negative}
use Rattle.rational_theory.proofs.Shares.{≤ℚ_cancel}
use Rattle.progression.specs.Street.{Street, HasLink, distance}
use Rattle.progression.specs.Speeds.{number, seconds, run_low, run_high}
use Rattle.progression.specs.TimingRecord.{TimingRecord, base}
use Rattle.progression.specs.BaseRecord.{cycle, run}
use Rattle.progression.specs.Good.{Good}
use Rattle.progression.specs.declared.parts.Dir.{Dir}
use Rattle.progression.specs.declared.parts.Units.{Units}
use Rattle.progression.specs.declared.parts.Units.TheVariants.{Metric, English}
use Rattle.linear_theory.specs.Boxes.{run_least, run_greatest}
use Rattle.linear_theory.specs.Counts.{IsStreet}
use Rattle.linear_theory.proofs.Points.{share}
use Rattle.linear_theory.proofs.Shares.{cycle_above}
use Rattle.linear_theory.proofs.Ranges.{parts_above, unit_above}

-- ---- signs
-- no natural number is below 0
pub number_not_negative : (n : ℕ) → number 0 ≤ℚ number n
number_not_negative n = whole-≤ℤ (pos 0) (pos n) (omega (arith, ints))

-- or above 0
pub number_above : (n : ℕ) → 0 < n → number 0 <ℚ number n
number_above n h = not-≤ℚ _ _ (λ l. let k = ≤ℤ_whole (pos n) (pos 0) l in absurd (omega (arith, ints)))

-- one over a number above 0
pub inverse_not_negative : (x : ℚ) → number 0 <ℚ x → number 0 ≤ℚ inverse_ℚ x
inverse_not_negative x h =
    ≤ℚ_cancel (number 0) (inverse_ℚ x) x (<ℚ-≤ℚ _ _ h) (above_not_zero x h)
    (rw (zero-*ℚ x, *ℚ_comm (inverse_ℚ x) x, *ℚ-inverse x (above_not_zero x h)) (number_not_negative 1))

-- a product of two numbers above 0
pub product_above : (x y : ℚ) → number 0 <ℚ x → number 0 <ℚ y → number 0 <ℚ (x *ℚ y)
product_above x y h k = not-≤ℚ _ _ (λ l. above_not_zero x h (*ℚ_cancel x (number 0) y (above_not_zero y k)
    (≤ℚ_antisymm _ _ l (product_not_negative x y (<ℚ-≤ℚ _ _ h) (<ℚ-≤ℚ _ _ k)) ∙ sym (zero-*ℚ y))))

-- a distance takes no negative time at a speed above 0
seconds_not_negative : (u : Units) (d : ℕ) (v : ℚ) → number 0 <ℚ v → number 0 ≤ℚ seconds u d v
seconds_not_negative Metric d v h =
    product_not_negative _ _ (number_not_negative (18 * d)) (inverse_not_negative _ (product_above (number 5) v (number_above 5 (omega arith)) h))
seconds_not_negative English d v h =
    product_not_negative _ _ (number_not_negative (15 * d)) (inverse_not_negative _ (product_above (number 22) v (number_above 22 (omega arith)) h))

module _ (a : Street) (t : TimingRecord) (h : IsStreet a) (g : Good a t) where
  -- the cycle is above 0
  cycle_some : number 0 <ℚ number (cycle a (base t))
  cycle_some = number_above (cycle a (base t)) (cycle_above a t (parts_above a h) (unit_above a t g))

  -- ---- over the cycle
  -- an inequality divided by the cycle
  pub divided : (x y : ℚ) → x ≤ℚ y → (x /ℚ number (cycle a (base t))) ≤ℚ (y /ℚ number (cycle a (base t)))
  divided x y l = ≤ℚ-*ℚ x y _ l (inverse_not_negative _ cycle_some)

  -- a number of cycles is at most so many ticks
  pub share_least : (q : ℚ) (n : ℕ) → (q *ℚ number (cycle a (base t))) ≤ℚ number n → q ≤ℚ share a t n
  share_least q n l =
      subst (λ x. x ≤ℚ share a t n)
      (*ℚ_assoc q (number (cycle a (base t))) (inverse_ℚ (number (cycle a (base t)))) ∙ ap (λ x. q *ℚ x) (*ℚ-inverse (number (cycle a (base t))) (above_not_zero _ cycle_some))
      ∙ ring (at 0 ⊗ lit (pos 1)) (at 0) (q ∷ []) refl)
      (divided _ _ l)

  -- ---- the frequency
  -- it is at least one over the longest cycle
  pub frequency_least : inverse_ℚ a.head.cycle.most ≤ℚ share a t t.grid
  frequency_least =
      let most = a.head.cycle.most in
      let n = above_not_zero most h.cycle_most in
      let one : number 1 ≤ℚ (most *ℚ share a t t.grid) =
      subst (λ x. x ≤ℚ (most *ℚ share a t t.grid)) (*ℚ-inverse (number (cycle a (base t))) (above_not_zero _ cycle_some))
      (subst (λ x. (number (cycle a (base t)) /ℚ number (cycle a (base t))) ≤ℚ x) (*ℚ_assoc most (number t.grid) (inverse_ℚ (number (cycle a (base t))))) (divided _ _ g.base.cycle_most)) in
      ≤ℚ_cancel _ _ most (<ℚ-≤ℚ _ _ h.cycle_most) n (rw (*ℚ_comm (inverse_ℚ most) most, *ℚ-inverse most n, *ℚ_comm (share a t t.grid) most) one)

  -- and at most one over the shortest
  pub frequency_most : share a t t.grid ≤ℚ inverse_ℚ a.head.cycle.least
  frequency_most =
      let least = a.head.cycle.least in
      let n = above_not_zero least h.cycle_least in
      let one : (least *ℚ share a t t.grid) ≤ℚ number 1 =
      subst (λ x. (least *ℚ share a t t.grid) ≤ℚ x) (*ℚ-inverse (number (cycle a (base t))) (above_not_zero _ cycle_some))
      (subst (λ x. x ≤ℚ (number (cycle a (base t)) /ℚ number (cycle a (base t)))) (*ℚ_assoc least (number t.grid) (inverse_ℚ (number (cycle a (base t))))) (divided _ _ g.base.cycle_least)) in
      ≤ℚ_cancel _ _ least (<ℚ-≤ℚ _ _ h.cycle_least) n (rw (*ℚ_comm (inverse_ℚ least) least, *ℚ-inverse least n, *ℚ_comm (share a t t.grid) least) one)

  -- ---- runs
  -- a run is no faster than the speed allows
  pub fast_share : (d : Dir) (i : ℕ) → HasLink a i → (run_low a d i *ℚ share a t t.grid) ≤ℚ share a t (run (base t) d i)
  fast_share d i k =
      subst (λ x. x ≤ℚ share a t (run (base t) d i)) (*ℚ_assoc (run_low a d i) (number t.grid) (inverse_ℚ (number (cycle a (base t))))) (divided _ _ (g.base.fast d i k))

  -- and no slower
  pub slow_share : (d : Dir) (i : ℕ) → HasLink a i → share a t (run (base t) d i) ≤ℚ (run_high a d i *ℚ share a t t.grid)
  slow_share d i k =
      subst (λ x. share a t (run (base t) d i) ≤ℚ x) (*ℚ_assoc (run_high a d i) (number t.grid) (inverse_ℚ (number (cycle a (base t))))) (divided _ _ (g.base.slow d i k))

  -- it is at least the root's least
  pub run_least_holds : (d : Dir) (i : ℕ) → HasLink a i → run_least a d i ≤ℚ share a t (run (base t) d i)
  run_least_holds d i k =
      ≤ℚ_trans _ (run_low a d i *ℚ share a t t.grid) _
      (≤ℚ-left (run_low a d i) _ _ (seconds_not_negative a.head.units (distance a d i) _ (h.speed_most d i k)) frequency_least) (fast_share d i k)

  -- and at most the greatest
  pub run_greatest_holds : (d : Dir) (i : ℕ) → HasLink a i → share a t (run (base t) d i) ≤ℚ run_greatest a d i
  run_greatest_holds d i k =
      ≤ℚ_trans _ (run_high a d i *ℚ share a t t.grid) _ (slow_share d i k)
      (≤ℚ-left (run_high a d i) _ _ (seconds_not_negative a.head.units (distance a d i) _ (h.speed_least d i k)) frequency_most)
