-- The time that a distance takes at a speed which is as fine as it can be written: from that at a speed of 1, and how large it is.
use Rattle.std.proofs.Common.{◌≡◌, ℕ, pos, ◌*◌, ◌^◌, ◌<◌, ◌≤◌, refl, sym, ◌∙◌, ap, subst, arith, unsigned_abs, mul-pos}
use Rattle.std.proofs.lemmas.Int.{ints}
use Rattle.std.proofs.Math.Nat.{mul-le-mul, mul-le-mul_left, mul-le-mul_right, le_of_mul-le-mul_right}
use Rattle.narrow_fraction.specs.Fraction.{FitsFrac}
use Rattle.rational_theory.specs.Rational.{ℚ, whole, over, inverse_ℚ, ◌*ℚ◌, ◌/ℚ◌}
use Rattle.rational_theory.proofs.Arithmetic.{IsRatio, same_ratio, product_ratio, whole_ratio, *ℚ-one}
use Rattle.rational_theory.proofs.Lowest.{num_size, den_size}
use Rattle.progression.specs.Speeds.{number, seconds}
use Rattle.progression.specs.declared.parts.Units.{Units}
use Rattle.progression.specs.declared.parts.Units.TheVariants.{Metric, English}
use Rattle.artery_model.specs.Valid.{IsQuantity}
use Rattle.artery_model.proofs.Quotients.{over_times}
use Rattle.band_measure.proofs.Parts.{as_ratio, inverse_of}
use Rattle.description_reader.specs.Typed.{IsWritten}
use Rattle.time_space.proofs.Quotients.{over_least}
use Rattle.typed_plan.proofs.Ticks.{cross_of, nat_ratio}

-- a speed is above 0
pub above_zero : (v : ℚ) → IsWritten (pos 1) (pos 300) v → (v.num ≡ pos (unsigned_abs v.num)) × (0 < unsigned_abs v.num)
above_zero v h = (omega (arith, ints, h.least, v.positive), omega (arith, ints, h.least, v.positive))

pub not_zero : (v : ℚ) → IsWritten (pos 1) (pos 300) v → v ≡ whole (pos 0) → ⊥
unfolding whole
not_zero v h e =
    let none : v.num ≡ pos 0 = ap (λ (x : ℚ). x.num) e in
    let up = (above_zero v h).1 in
    omega (arith, ints, none, up)

inverse_whole : (k : ℕ) → 1 ≤ k → IsRatio (inverse_ℚ (number k)) 1 0 k
unfolding whole
inverse_whole k h = inverse_of (number k) k refl h

module _ (n k : ℕ) (v : ℚ) (under : 1 ≤ k) (h : IsWritten (pos 1) (pos 300) v) where
  abbrev at : ℚ
  at = number n /ℚ (number k *ℚ v)

  abbrev top : ℕ
  top = n * v.den

  abbrev bottom : ℕ
  bottom = k * unsigned_abs v.num

  some : 0 < bottom
  some = mul-pos under (above_zero v h).1

  is_over : over (pos top) bottom ≡ at
  is_over = over_times n k (unsigned_abs v.num) v (above_zero v h).0 (above_zero v h).1 under

  at_ratio : IsRatio at top 0 bottom
  at_ratio = subst (λ x. IsRatio x top 0 bottom) is_over (nat_ratio top bottom some)

  pub by_one : (number n /ℚ (number k *ℚ number 1)) /ℚ v ≡ at
  by_one =
      ap (λ w. (number n /ℚ w) /ℚ v) (*ℚ-one (number k))
      ∙ same_ratio _ _ _ _ _ _ _ _
      (product_ratio _ _ _ _ _ _ _ _ (product_ratio _ _ _ _ _ _ _ _ (whole_ratio (pos n)) (inverse_whole k under)) (inverse_of v (unsigned_abs v.num) (sym (above_zero v h).0) (above_zero v h).1))
      at_ratio (omega arith)

  num_most : unsigned_abs at.num ≤ top
  num_most = subst (λ (x : ℚ). unsigned_abs x.num ≤ top) is_over (let s = num_size (pos top) bottom some in omega (arith, s))

  den_most : at.den ≤ bottom
  den_most = subst (λ (x : ℚ). x.den ≤ bottom) is_over (den_size (pos top) bottom some)

  num_least : unsigned_abs v.num ≤ 300 * 10 ^ 18
  num_least =
      let most = h.most in
      let den = h.den in
      let up = (above_zero v h).0 in
      omega (arith, ints, most, den, up)

  pub fits : n ≤ 540000 → k ≤ 22 → FitsFrac at
  fits l m =
      let wide : top ≤ 540000 * 10 ^ 18 = mul-le-mul l h.den in
      let deep : bottom ≤ 22 * (300 * 10 ^ 18) = mul-le-mul m num_least in
      let num = num_most in
      let den = den_most in
      record { num_fits = omega (arith, num, wide); den_fits = omega (arith, den, deep) }

  natural : at.num ≡ pos (unsigned_abs at.num)
  natural = subst (λ (x : ℚ). x.num ≡ pos (unsigned_abs x.num)) is_over (let l = over_least top bottom in omega (arith, ints, l))

  -- a speed of 1 or more takes no longer than one of 1
  pub short : n ≤ 540000 → unsigned_abs at.num ≤ 540000000 * at.den
  short l =
      let s = unsigned_abs at.num in
      let a = unsigned_abs v.num in
      let up = above_zero v h in
      let c = cross_of _ _ _ _ _ _ _ _ (as_ratio at s (sym natural)) at_ratio refl in
      let least = h.least in
      let one : v.den ≤ a = let e = up.0 in omega (arith, ints, least, e) in
      let stretch : n * at.den * v.den ≤ n * at.den * a = mul-le-mul_left (n * at.den) one in
      let cut : s * k ≤ n * at.den = le_of_mul-le-mul_right (let e : s * k * a ≤ n * at.den * a = omega (arith, c, stretch) in e) up.1 in
      let more : s * 1 ≤ s * k = mul-le-mul_left s under in
      let most : n * at.den ≤ 540000 * at.den = mul-le-mul_right at.den l in
      omega (arith, cut, more, most)

-- ---- of a distance
pub one_quantity : IsQuantity (pos 1) (pos 300) (number 1)
unfolding whole
one_quantity = record { num = omega arith; den = omega arith; least = omega (arith, ints); most = omega (arith, ints) }

pub at_one : (u : Units) (d : ℕ) (v : ℚ) → IsWritten (pos 1) (pos 300) v → seconds u d (number 1) /ℚ v ≡ seconds u d v
at_one Metric d v h = by_one (18 * d) 5 v (omega arith) h
at_one English d v h = by_one (15 * d) 22 v (omega arith) h

pub seconds_fit : (u : Units) (d : ℕ) (v : ℚ) → d ≤ 30000 → IsWritten (pos 1) (pos 300) v → FitsFrac (seconds u d v)
seconds_fit Metric d v l h = fits (18 * d) 5 v (omega arith) h (omega (arith, l)) (omega arith)
seconds_fit English d v l h = fits (15 * d) 22 v (omega arith) h (omega (arith, l)) (omega arith)

pub seconds_short : (u : Units) (d : ℕ) (v : ℚ) → d ≤ 30000 → IsWritten (pos 1) (pos 300) v → unsigned_abs (seconds u d v).num ≤ 540000000 * (seconds u d v).den
seconds_short Metric d v l h = short (18 * d) 5 v (omega arith) h (omega (arith, l))
seconds_short English d v l h = short (15 * d) 22 v (omega arith) h (omega (arith, l))
