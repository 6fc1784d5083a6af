-- The run of a speed and the speed of a run: one is found as the other is.
use Rattle.std.proofs.Common.{◌≡◌, ℕ, ◌<◌, ◌≤◌, ◌*◌, pos, ◌≤ℤ◌, Bool, true, refl, sym, ◌∙◌, ap, subst, arith, mul-pos}
use Rattle.std.proofs.lemmas.Int.{ints}
use Rattle.rational_theory.specs.Rational.{ℚ, whole, over, ◌*ℚ◌, ◌/ℚ◌, inverse_ℚ, ◌≤ℚ◌, ◌<ℚ◌}
use Rattle.rational_theory.proofs.Arithmetic.{*ℚ_comm, *ℚ_assoc, *ℚ-zero}
use Rattle.rational_theory.proofs.Order.{≤ℚ_trans, ≤ℚ_antisymm, <ℚ-≤ℚ, not-≤ℚ, <ℚ_not-≤ℚ, *ℚ_cancel, above_not_zero}
use Rattle.rational_theory.proofs.Ring.{*ℚ_left_comm, zero-*ℚ}
use Rattle.rational_theory.proofs.Linear.{product_not_negative}
use Rattle.rational_theory.proofs.Rows.{≤ℚ-left}
use Rattle.rational_theory.proofs.Shares.{≤ℚ_cancel, quotient_times}
use Rattle.progression.specs.Speeds.{number, seconds}
use Rattle.progression.specs.declared.parts.Units.{Units}
use Rattle.progression.specs.declared.parts.Units.TheVariants.{Metric, English}
use Rattle.artery_model.specs.Valid.{IsQuantity}
use Rattle.artery_model.proofs.Validity.{quantity_of}
use Rattle.speed_steps.specs.Moved.{is_speed}

-- a number whose numerator is above 0 is above 0
pub above_of : (x : ℚ) → pos 1 ≤ℤ x.num → whole (pos 0) <ℚ x
unfolding whole
above_of x h = record { cross = omega (arith, ints, h) }

inverse_zero : inverse_ℚ (whole (pos 0)) ≡ whole (pos 0)
unfolding inverse_ℚ whole over
inverse_zero = refl

-- what gives x when it is multiplied by w is x over w
pub is_quotient : (x w y : ℚ) → (w ≡ whole (pos 0) → ⊥) → y *ℚ w ≡ x → y ≡ x /ℚ w
is_quotient x w y n e = *ℚ_cancel y (x /ℚ w) w n (e ∙ sym (quotient_times x w n))

-- what a speed is whose run is 0
pub over_nothing : (a b : ℕ) (v : ℚ) → v ≡ whole (pos 0) → number a /ℚ (number b *ℚ v) ≡ whole (pos 0)
over_nothing a b v e =
    ap (λ t. number a *ℚ inverse_ℚ (number b *ℚ t)) e
    ∙ ap (λ t. number a *ℚ inverse_ℚ t) (*ℚ-zero (number b))
    ∙ ap (λ t. number a *ℚ t) inverse_zero
    ∙ *ℚ-zero (number a)

number_above : (n : ℕ) → 0 < n → whole (pos 0) <ℚ number n
unfolding whole
number_above n h = record { cross = omega (arith, ints, h) }

-- ---- a whole number over a multiple
module _ (a b : ℕ) (some_a : 0 < a) (some_b : 0 < b) where
  abbrev turn : ℚ → ℚ
  turn v = number a /ℚ (number b *ℚ v)

  above_a : whole (pos 0) <ℚ number a
  above_a = number_above a some_a

  above_b : whole (pos 0) <ℚ number b
  above_b = number_above b some_b

  -- no product of numbers that aren't 0 is 0
  times_b : (v : ℚ) → (v ≡ whole (pos 0) → ⊥) → number b *ℚ v ≡ whole (pos 0) → ⊥
  times_b v n e =
      n (*ℚ_cancel v (whole (pos 0)) (number b) (above_not_zero (number b) above_b) (*ℚ_comm v (number b) ∙ e ∙ sym (zero-*ℚ (number b))))

  product : (v : ℚ) → (v ≡ whole (pos 0) → ⊥) → turn v *ℚ (number b *ℚ v) ≡ number a
  product v n = quotient_times (number a) (number b *ℚ v) (times_b v n)

  turn_some : (v : ℚ) → (v ≡ whole (pos 0) → ⊥) → turn v ≡ whole (pos 0) → ⊥
  turn_some v n e = above_not_zero (number a) above_a (sym (product v n) ∙ ap (λ t. t *ℚ (number b *ℚ v)) e ∙ zero-*ℚ (number b *ℚ v))

  turn_back : (v : ℚ) → (v ≡ whole (pos 0) → ⊥) → turn (turn v) ≡ v
  turn_back v n =
      let w = turn v in
      let e : v *ℚ (number b *ℚ w) ≡ number a = *ℚ_left_comm v (number b) w ∙ ap (λ t. number b *ℚ t) (*ℚ_comm v w) ∙ *ℚ_left_comm (number b) w v ∙ product v n in
      sym (is_quotient (number a) (number b *ℚ w) v (times_b w (turn_some v n)) e)

  multiple : (v : ℚ) → whole (pos 0) ≤ℚ v → whole (pos 0) ≤ℚ (number b *ℚ v)
  multiple v h = product_not_negative (number b) v (<ℚ-≤ℚ _ _ above_b) h

  turn_least : (v : ℚ) → whole (pos 0) <ℚ v → whole (pos 0) ≤ℚ turn v
  turn_least v h =
      let n = above_not_zero v h in
      ≤ℚ_cancel (whole (pos 0)) (turn v) (number b *ℚ v) (multiple v (<ℚ-≤ℚ _ _ h)) (times_b v n)
      (subst (λ t. (whole (pos 0) *ℚ (number b *ℚ v)) ≤ℚ t) (sym (product v n)) (subst (λ t. t ≤ℚ number a) (sym (zero-*ℚ (number b *ℚ v))) (<ℚ-≤ℚ _ _ above_a)))

  turn_above : (v : ℚ) → whole (pos 0) <ℚ v → whole (pos 0) <ℚ turn v
  turn_above v h = not-≤ℚ (whole (pos 0)) (turn v) (λ k. turn_some v (above_not_zero v h) (≤ℚ_antisymm (turn v) (whole (pos 0)) k (turn_least v h)))

  -- the greater one is turned into the lesser
  turn_order : (v w : ℚ) → whole (pos 0) <ℚ v → v ≤ℚ w → turn w ≤ℚ turn v
  turn_order v w h k =
      let some_v = above_not_zero v h in
      let above_w : whole (pos 0) <ℚ w = not-≤ℚ (whole (pos 0)) w (λ l. <ℚ_not-≤ℚ (whole (pos 0)) v h (≤ℚ_trans v w (whole (pos 0)) k l)) in
      let some_w = above_not_zero w above_w in
      let e : turn w *ℚ (number b *ℚ w) ≡ turn v *ℚ (number b *ℚ v) = product w some_w ∙ sym (product v some_v) in
      let l : (turn v *ℚ (number b *ℚ v)) ≤ℚ (turn v *ℚ (number b *ℚ w)) = ≤ℚ-left (turn v) (number b *ℚ v) (number b *ℚ w) (turn_least v h) (≤ℚ-left (number b) v w (<ℚ-≤ℚ _ _ above_b) k) in
      ≤ℚ_cancel (turn w) (turn v) (number b *ℚ w) (multiple w (<ℚ-≤ℚ _ _ above_w)) (times_b w some_w) (subst (λ t. t ≤ℚ (turn v *ℚ (number b *ℚ w))) (sym e) l)

-- ---- runs and speeds
speed_above : (v : ℚ) → IsQuantity (pos 1) (pos 300) v → whole (pos 0) <ℚ v
speed_above v h = above_of v (let p = v.positive in let l = h.least in omega (arith, ints, p, l))

pub is_above : (v : ℚ) → is_speed v ≡ true → whole (pos 0) <ℚ v
is_above v h = speed_above v (quantity_of (pos 1) (pos 300) v h)

module _ (length : ℕ) (some : 1 ≤ length) where
  long : (k : ℕ) → 0 < k → 0 < k * length
  long k h = mul-pos h some

  pub back : (units : Units) (v : ℚ) → (v ≡ whole (pos 0) → ⊥) → seconds units length (seconds units length v) ≡ v
  back Metric v n = turn_back (18 * length) 5 (long 18 (omega arith)) (omega arith) v n
  back English v n = turn_back (15 * length) 22 (long 15 (omega arith)) (omega arith) v n

  pub above : (units : Units) (v : ℚ) → whole (pos 0) <ℚ v → whole (pos 0) <ℚ seconds units length v
  above Metric v h = turn_above (18 * length) 5 (long 18 (omega arith)) (omega arith) v h
  above English v h = turn_above (15 * length) 22 (long 15 (omega arith)) (omega arith) v h

  none : (units : Units) → seconds units length (whole (pos 0)) ≡ whole (pos 0)
  none Metric = over_nothing (18 * length) 5 (whole (pos 0)) refl
  none English = over_nothing (15 * length) 22 (whole (pos 0)) refl

  order : (units : Units) (v w : ℚ) → whole (pos 0) <ℚ v → v ≤ℚ w → seconds units length w ≤ℚ seconds units length v
  order Metric v w h k = turn_order (18 * length) 5 (long 18 (omega arith)) (omega arith) v w h k
  order English v w h k = turn_order (15 * length) 22 (long 15 (omega arith)) (omega arith) v w h k

  -- the run of the speed of a run, where that is a speed of a description
  pub run_back : (units : Units) (run : ℚ) → is_speed (seconds units length run) ≡ true → seconds units length (seconds units length run) ≡ run
  run_back units run h = back units run (λ e. above_not_zero (seconds units length run) (is_above (seconds units length run) h) (ap (seconds units length) e ∙ none units))

  -- the slower of two speeds has the longer run
  pub slower_by : (units : Units) (v w : ℚ) → whole (pos 0) <ℚ v → whole (pos 0) <ℚ w → seconds units length w ≤ℚ seconds units length v → v ≤ℚ w
  slower_by units v w h k l =
      let e = back units v (above_not_zero v h) in
      let f = back units w (above_not_zero w k) in
      subst (λ t. t ≤ℚ w) e (subst (λ t. seconds units length (seconds units length v) ≤ℚ t) f (order units (seconds units length w) (seconds units length v) (above units w k) l))
