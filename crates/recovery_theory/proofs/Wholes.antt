-- Each column of a point is its whole ticks over the cycle.
use Rattle.std.proofs.Common.{◌≡◌, ℕ, zero, suc, ℤ, pos, negsuc, ◌*◌, ◌<◌, ◌≤◌, List, [], ◌∷◌, length, refl, sym, ◌∙◌, ap, arith, mul-pos, unsigned_abs}
use Rattle.std.proofs.lemmas.Int.{ints}
use borrow.Author.Differences.{up, down}
use Rattle.rational_theory.specs.Rational.{ℚ, whole, ◌*ℚ◌, ◌/ℚ◌, ◌≤ℚ◌}
use Rattle.rational_theory.proofs.Arithmetic.{own_ratio, whole_ratio, same_ratio, product_ratio, ≤ℚ_out, *ℚ_assoc}
use Rattle.rational_theory.proofs.Order.{≤ℤ_whole, ≤ℚ_refl, *ℚ_cancel, whole_not_zero}
use Rattle.rational_theory.specs.Floor.{floor_ℚ}
use Rattle.rational_theory.proofs.Floor.{floor_is}
use Rattle.rational_theory.proofs.Linear.{product_not_negative}
use Rattle.rational_theory.specs.Rows.{AllNonNegative}
use Rattle.rational_theory.proofs.Shares.{quotient_times}
use Rattle.progression.specs.Street.{Street}
use Rattle.progression.specs.Speeds.{number}
use Rattle.linear_theory.proofs.Divided.{number_not_negative}
use Rattle.recovery_theory.specs.Ticks.{value_in, in_parts, unit_of, ticks_in}
use Rattle.recovery_theory.proofs.Multiples.{unit_least, unit_multiple}

-- no value is below 0, one past the end neither
pub value_not_negative : (x : List ℚ) (j : ℕ) → AllNonNegative x → number 0 ≤ℚ value_in x j
value_not_negative [] j h = ≤ℚ_refl (number 0)
value_not_negative (y ∷ x) zero h = h.0
value_not_negative (y ∷ x) (suc j) h = value_not_negative x j h.1

-- a whole number is its own floor
pub floor_whole : (z : ℤ) → floor_ℚ (whole z) ≡ z
floor_whole z =
    let l = (floor_is z (whole z)).0 (≤ℚ_refl (whole z)) in
    let m = ≤ℤ_whole _ _ ((floor_is (floor_ℚ (whole z)) (whole z)).1 (omega (arith, ints))) in
    omega (arith, ints)

-- a numerator that is not below 0
natural : (z : ℤ) → (down z ≤ up z) → z ≡ pos (unsigned_abs z)
natural (pos n) h = refl
natural (negsuc n) h = absurd (omega arith)

pub num_natural : (y : ℚ) → number 0 ≤ℚ y → y.num ≡ pos (unsigned_abs y.num)
num_natural y h = natural y.num (let e = ≤ℚ_out _ _ _ _ _ _ _ _ (whole_ratio (pos 0)) (own_ratio y) h in omega arith)

-- a number of at least 0 times a multiple of its denominator
times_multiple : (y : ℚ) (u m : ℕ) → number 0 ≤ℚ y → u ≡ m * y.den → y *ℚ number u ≡ number (unsigned_abs y.num * m)
times_multiple y u m h e =
    let n = num_natural y h in
    let f = ap up n in let g = ap down n in
    let k : unsigned_abs y.num * u ≡ unsigned_abs y.num * m * y.den = ap (λ t. unsigned_abs y.num * t) e ∙ omega arith in
    same_ratio _ _ _ _ _ _ _ _ (product_ratio y (number u) _ _ _ _ _ _ (own_ratio y) (whole_ratio (pos u))) (whole_ratio (pos (unsigned_abs y.num * m)))
    (rw (f, g) (omega arith))

-- a number whose product with the parts has a denominator that divides the unit
pub whole_times : (v : ℚ) (p u m : ℕ) → number 0 ≤ℚ v → u ≡ m * (v *ℚ number p).den
    → v *ℚ number (p * u) ≡ number (unsigned_abs (v *ℚ number p).num * m)
whole_times v p u m h e =
    let both : number (p * u) ≡ number p *ℚ number u = same_ratio _ _ _ _ _ _ _ _ (whole_ratio (pos (p * u))) (product_ratio _ _ _ _ _ _ _ _ (whole_ratio (pos p)) (whole_ratio (pos u)))
    (omega arith) in
    ap (λ t. v *ℚ t) both ∙ sym (*ℚ_assoc v (number p) (number u)) ∙ times_multiple (v *ℚ number p) u m (product_not_negative _ _ h (number_not_negative p)) e

module _ (a : Street) (x : List ℚ) (p : 0 < a.head.parts) (h : AllNonNegative x) (j : ℕ) (l : j < length x) where
  -- a column's ticks, from its product with the parts
  pub ticks_from_parts : ticks_in a x j ≡ unsigned_abs (in_parts a x j).num * (unit_multiple a x j l).times
  unfolding ticks_in
  ticks_from_parts =
      rw (
        whole_times (value_in x j) a.head.parts (unit_of a x) (unit_multiple a x j l).times (value_not_negative x j h) (unit_multiple a x j l).is,
        floor_whole (pos (unsigned_abs (in_parts a x j).num * (unit_multiple a x j l).times)),
      ) refl

  -- times the cycle it is whole
  pub times_cycle : value_in x j *ℚ number (a.head.parts * unit_of a x) ≡ number (ticks_in a x j)
  times_cycle =
      whole_times (value_in x j) a.head.parts (unit_of a x) (unit_multiple a x j l).times (value_not_negative x j h) (unit_multiple a x j l).is
      ∙ ap number (sym ticks_from_parts)

  -- over the cycle
  pub value_is : value_in x j ≡ number (ticks_in a x j) /ℚ number (a.head.parts * unit_of a x)
  value_is =
      let u = unit_least a x in
      let c : 0 < a.head.parts * unit_of a x = mul-pos p (omega arith) in
      let n = whole_not_zero (pos (a.head.parts * unit_of a x)) (λ e. absurd (omega (arith, ints, e))) in
      *ℚ_cancel _ _ (number (a.head.parts * unit_of a x)) n (times_cycle ∙ sym (quotient_times (number (ticks_in a x j)) (number (a.head.parts * unit_of a x)) n))
