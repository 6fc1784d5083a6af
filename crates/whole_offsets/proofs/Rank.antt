-- What plans of one cycle are judged by as one number, which falls as they get better.
use Rattle.std.proofs.Common.{◌≡◌, ℕ, pos, ◌+◌, ◌-◌, ◌*◌, ◌^◌, ◌<◌, ◌≤◌, refl, sym, ◌∙◌, ap, subst, arith, inl, inr, unsigned_abs, mul-pos}
use Rattle.std.proofs.Math.Nat.{mul-le-mul_left, mul-le-mul_right, le_of_mul-le-mul_right}
use Rattle.std.proofs.lemmas.Bool.{cases_lt}
use Rattle.std.proofs.lemmas.Int.{ints}
use Rattle.rational_theory.specs.Rational.{ℚ, over, ◌+ℚ◌, ◌/ℚ◌, ◌<ℚ◌, ◌≤ℚ◌}
use Rattle.rational_theory.proofs.Order.{over_≤ℚ, <ℚ_not-≤ℚ, ≤ℚ_refl}
use Rattle.rational_theory.proofs.Arithmetic.{same_ratio, over_ratio, sum_ratio, product_ratio, whole_ratio}
use Rattle.progression.specs.Street.{Street, least_band}
use Rattle.progression.specs.Speeds.{number}
use Rattle.progression.specs.TimingRecord.{TimingRecord, base}
use Rattle.progression.specs.BaseRecord.{cycle}
use Rattle.progression.specs.Best.{weighted_band}
use Rattle.progression.specs.declared.parts.Dir.{Dir}
use Rattle.progression.specs.declared.parts.Dir.TheVariants.{Outbound, Inbound}
use Rattle.artery_model.specs.Valid.{IsValid}
use Rattle.time_space.proofs.Fractions.{inverse_ratio}
use Rattle.time_space.proofs.FinerGrids.{mul-le}
use Rattle.time_space.proofs.Quotients.{weighted}
use Rattle.whole_offsets.specs.Score.{missed, miss, IsScore, IsSmall, IsBetter}
use Rattle.whole_offsets.specs.declared.score.Score.{Score}

-- ---- quotients of whole numbers
-- a sum of two over a common denominator
pub sum_of_misses : (x y d e c : ℕ) → 0 < d → 0 < e → 0 < c → over (pos (x * e + y * d)) (d * e * c) ≡ number x /ℚ number (d * c) +ℚ number y /ℚ number (e * c)
sum_of_misses x y d e c p q r =
    let dc = mul-pos p r in
    let ec = mul-pos q r in
    let first = product_ratio (number x) _ _ _ _ _ _ _ (whole_ratio (pos x)) (inverse_ratio (d * c) dc) in
    let second = product_ratio (number y) _ _ _ _ _ _ _ (whole_ratio (pos y)) (inverse_ratio (e * c) ec) in
    same_ratio _ _ _ _ _ _ _ _ (over_ratio (pos (x * e + y * d)) (d * e * c) (mul-pos (mul-pos p q) r)) (sum_ratio _ _ _ _ _ _ _ _ first second) (omega arith)

-- over one denominator the numerators tell
over_less : (m n d : ℕ) → 0 < d → over (pos m) d <ℚ over (pos n) d → m < n
over_less m n d p h = elim (cases_lt m n) [
  | inl l ↦ l
  | inr l ↦ let s : n * d ≤ m * d = mul-le-mul_right d l in absurd (<ℚ_not-≤ℚ _ _ h ((over_≤ℚ (pos n) (pos m) d d p p).1 (omega (arith, ints, s))))
]

less_over : (m n d : ℕ) → 0 < d → (x y : ℚ) → x ≡ over (pos m) d → y ≡ over (pos n) d → x <ℚ y → m < n
less_over m n d p x y e f h = over_less m n d p (subst (λ z. z <ℚ over (pos n) d) e (subst (λ z. x <ℚ z) f h))

over_most : (m n d : ℕ) → 0 < d → over (pos m) d ≤ℚ over (pos n) d → m ≤ n
over_most m n d p h =
    let z = (over_≤ℚ (pos m) (pos n) d d p p).0 h in
    let s : m * d ≤ n * d = omega (arith, ints, z) in le_of_mul-le-mul_right s p

over_same : (m n d : ℕ) → 0 < d → over (pos m) d ≡ over (pos n) d → m ≡ n
over_same m n d p h =
    let l = over_most m n d p (subst (λ z. over (pos m) d ≤ℚ z) h (≤ℚ_refl _)) in
    let g = over_most n m d p (subst (λ z. z ≤ℚ over (pos m) d) h (≤ℚ_refl _)) in omega arith

-- ---- of a plan
-- the misses of both bands over a common denominator
abbrev misses_of : Street → TimingRecord → ℕ
misses_of a p = missed a p Outbound * (least_band a Inbound).den + missed a p Inbound * (least_band a Outbound).den

-- the weighted band
abbrev weight_of : Street → TimingRecord → ℕ
weight_of a p = a.head.ratio.den * p.band_out + unsigned_abs a.head.ratio.num * p.band_in

-- greater than either
abbrev most : ℕ
most = 2 ^ 120

abbrev pub rank : Street → TimingRecord → ℕ → ℕ
rank a p lineless = (lineless * 2 ^ 120 + misses_of a p) * 2 ^ 120 + (2 ^ 120 - weight_of a p)

-- lexicographic, in numbers
by_first : (l m w k n v : ℕ) → m < most → w < most → n < most → v < most → l < k → (l * most + m) * most + (most - w) < (k * most + n) * most + (most - v)
by_first l m w k n v p q r s h = omega arith

by_second : (l m w n v : ℕ) → w < most → v < most → m < n → (l * most + m) * most + (most - w) < (l * most + n) * most + (most - v)
by_second l m w n v q s h = omega arith

by_third : (l m w v : ℕ) → w < most → v < most → v < w → (l * most + m) * most + (most - w) < (l * most + m) * most + (most - v)
by_third l m w v q s h = omega arith

module _ (a : Street) (valid : IsValid a) where
  least_sizes : (d : Dir) → (unsigned_abs (least_band a d).num ≤ 100000) × ((least_band a d).den ≤ 1000)
  least_sizes Outbound = (valid.least_out.num, valid.least_out.den)
  least_sizes Inbound = (valid.least_in.num, valid.least_in.den)

  weight_at : (p : TimingRecord) → 0 < cycle a (base p) → over (pos (weight_of a p)) (a.head.ratio.den * cycle a (base p)) ≡ weighted_band a p
  weight_at p some = weighted a.head.ratio (unsigned_abs a.head.ratio.num) a.head.ratio.den p.band_out p.band_in (cycle a (base p))
      (let l = valid.ratio.least in omega (arith, ints, l)) refl some

  -- wider bands weigh more
  pub weighs_most : (p q : TimingRecord) → 0 < cycle a (base q) → cycle a (base p) ≡ cycle a (base q) → p.band_out ≤ q.band_out → p.band_in ≤ q.band_in → weighted_band a p ≤ℚ weighted_band a q
  weighs_most p q some same o i =
      let d = mul-pos a.head.ratio.positive some in
      let some_p : 0 < cycle a (base p) = omega arith in
      let f = mul-le-mul_left a.head.ratio.den o in
      let g = mul-le-mul_left (unsigned_abs a.head.ratio.num) i in
      let l : weight_of a p ≤ weight_of a q = omega (arith, f, g) in
      let m : weight_of a p * (a.head.ratio.den * cycle a (base q)) ≤ weight_of a q * (a.head.ratio.den * cycle a (base q)) = mul-le-mul_right (a.head.ratio.den * cycle a (base q)) l in
      let w : over (pos (weight_of a p)) (a.head.ratio.den * cycle a (base q)) ≤ℚ over (pos (weight_of a q)) (a.head.ratio.den * cycle a (base q)) = (over_≤ℚ _ _ _ _ d d).1 (omega (arith, ints, m)) in
      subst (λ z. z ≤ℚ weighted_band a q) (ap (λ c. over (pos (weight_of a p)) (a.head.ratio.den * c)) (sym same) ∙ weight_at p some_p)
      (subst (λ z. over (pos (weight_of a p)) (a.head.ratio.den * cycle a (base q)) ≤ℚ z) (weight_at q some) w)

  module _ (p : TimingRecord) (small : IsSmall a p) where
    missed_small : (d : Dir) → missed a p d ≤ 100000 * 2 ^ 92
    missed_small d = let s = least_sizes d in let c = small.cycle in let below : cycle a (base p) ≤ 2 ^ 92 = omega (arith, c) in
        let m : unsigned_abs (least_band a d).num * cycle a (base p) ≤ 100000 * 2 ^ 92 = mul-le s.0 below in omega (arith, m)

    misses_small : misses_of a p < 2 ^ 120
    misses_small =
        let f : missed a p Outbound * (least_band a Inbound).den ≤ 100000 * 2 ^ 92 * 1000 = mul-le (missed_small Outbound) (least_sizes Inbound).1 in
        let g : missed a p Inbound * (least_band a Outbound).den ≤ 100000 * 2 ^ 92 * 1000 = mul-le (missed_small Inbound) (least_sizes Outbound).1 in omega (arith, f, g)

    weight_small : weight_of a p < 2 ^ 120
    weight_small =
        let out : p.band_out ≤ 2 ^ 92 = let s = small.band_out in omega (arith, s) in
        let back : p.band_in ≤ 2 ^ 92 = let s = small.band_in in omega (arith, s) in
        let f : a.head.ratio.den * p.band_out ≤ 1000 * 2 ^ 92 = mul-le valid.ratio.den out in
        let g : unsigned_abs a.head.ratio.num * p.band_in ≤ 100000 * 2 ^ 92 = mul-le valid.ratio.num back in omega (arith, f, g)

    pub misses_are : over (pos (misses_of a p)) ((least_band a Outbound).den * (least_band a Inbound).den * cycle a (base p)) ≡ miss a p Outbound +ℚ miss a p Inbound
    misses_are = sum_of_misses (missed a p Outbound) (missed a p Inbound) (least_band a Outbound).den (least_band a Inbound).den (cycle a (base p))
        (least_band a Outbound).positive (least_band a Inbound).positive small.some

    weight_is : over (pos (weight_of a p)) (a.head.ratio.den * cycle a (base p)) ≡ weighted_band a p
    weight_is = weight_at p small.some

    denominator : 0 < (least_band a Outbound).den * (least_band a Inbound).den * cycle a (base p)
    denominator = mul-pos (mul-pos (least_band a Outbound).positive (least_band a Inbound).positive) small.some

  module _ (p q : TimingRecord) (ps : IsSmall a p) (qs : IsSmall a q) (same : cycle a (base p) ≡ cycle a (base q)) where
    -- the misses of both over one denominator
    misses_here : over (pos (misses_of a p)) ((least_band a Outbound).den * (least_band a Inbound).den * cycle a (base q)) ≡ miss a p Outbound +ℚ miss a p Inbound
    misses_here = ap (λ c. over (pos (misses_of a p)) ((least_band a Outbound).den * (least_band a Inbound).den * c)) (sym same) ∙ misses_are p ps

    weight_here : over (pos (weight_of a p)) (a.head.ratio.den * cycle a (base q)) ≡ weighted_band a p
    weight_here = ap (λ c. over (pos (weight_of a p)) (a.head.ratio.den * c)) (sym same) ∙ weight_is p ps

    less_missed : (x y : ℚ) → x ≡ miss a p Outbound +ℚ miss a p Inbound → y ≡ miss a q Outbound +ℚ miss a q Inbound → x <ℚ y → misses_of a p < misses_of a q
    less_missed x y e f h = less_over _ _ _ (denominator q qs) x y (e ∙ sym misses_here) (f ∙ sym (misses_are q qs)) h

    as_missed : (x y : ℚ) → x ≡ miss a p Outbound +ℚ miss a p Inbound → y ≡ miss a q Outbound +ℚ miss a q Inbound → x ≡ y → misses_of a p ≡ misses_of a q
    as_missed x y e f h = over_same _ _ _ (denominator q qs) (misses_here ∙ sym e ∙ h ∙ f ∙ sym (misses_are q qs))

    more_weight : (x y : ℚ) → x ≡ weighted_band a p → y ≡ weighted_band a q → y <ℚ x → weight_of a q < weight_of a p
    more_weight x y e f h = less_over _ _ _ (mul-pos a.head.ratio.positive qs.some) y x (f ∙ sym (weight_is q qs)) (e ∙ sym weight_here) h

    -- a better plan of the same cycle has a lesser number
    pub ranked : (s r : Score) → IsScore a p s → IsScore a q r → IsBetter s r → rank a p s.lineless < rank a q r.lineless
    ranked s r ps_is qs_is (inl h) =
        by_first s.lineless (misses_of a p) (weight_of a p) r.lineless (misses_of a q) (weight_of a q) (misses_small p ps) (weight_small p ps) (misses_small q qs) (weight_small q qs) h
    ranked s r ps_is qs_is (inr (e, inl h)) =
        let m = less_missed s.misses r.misses ps_is.misses qs_is.misses h in
        let f = by_second s.lineless (misses_of a p) (weight_of a p) (misses_of a q) (weight_of a q) (weight_small p ps) (weight_small q qs) m in
        subst (λ k. rank a p s.lineless < rank a q k) e f
    ranked s r ps_is qs_is (inr (e, inr h)) =
        let m = as_missed s.misses r.misses ps_is.misses qs_is.misses h.0 in
        let w = more_weight s.weighted r.weighted ps_is.weighted qs_is.weighted h.1 in
        let f = by_third s.lineless (misses_of a p) (weight_of a p) (weight_of a q) (weight_small p ps) (weight_small q qs) w in
        subst (λ k. rank a p s.lineless < rank a q k) e (subst (λ n. rank a p s.lineless < (s.lineless * 2 ^ 120 + n) * 2 ^ 120 + (2 ^ 120 - weight_of a q)) m f)
