-- No good timing of the plan's base has a greater weighted band.
use Rattle.std.proofs.Common.{◌≡◌, ℕ, ℤ, pos, ◌*ℤ◌, ◌+◌, ◌*◌, ◌<◌, ◌≤◌, refl, sym, ap, subst, arith, mul-pos}
use Rattle.std.proofs.lemmas.Int.{ints}
use Rattle.std.proofs.Math.Nat.{mul-le-mul_left, mul-le-mul_right}
use Rattle.rational_theory.specs.Rational.{ℚ, over, ◌+ℚ◌, ◌*ℚ◌, ◌-ℚ◌, ◌/ℚ◌, ◌≤ℚ◌}
use Rattle.rational_theory.proofs.Order.{over_≤ℚ}
use Rattle.rational_theory.proofs.Linear.{gap_not_negative}
use Rattle.progression.specs.Street.{Street}
use Rattle.progression.specs.Speeds.{number}
use Rattle.progression.specs.BaseRecord.{BaseRecord, cycle}
use Rattle.progression.specs.TimingRecord.{TimingRecord, banded}
use Rattle.progression.specs.Good.{Good}
use Rattle.progression.specs.Best.{weighted_band, Bounded}
use Rattle.progression.specs.declared.parts.Dir.{Dir}
use Rattle.progression.specs.declared.parts.Dir.TheVariants.{Outbound, Inbound}
use Rattle.artery_model.specs.Valid.{IsValid}
use Rattle.time_space.proofs.Quotients.{weighted}
use Rattle.progression.specs.Lines.{RunsOn}
use Rattle.band_measure.specs.Pairs.{FinerPairs}
use Rattle.band_measure.specs.Widest.{IsWidest}
use Rattle.band_measure.specs.Cut.{IsCut}
use Rattle.second_plan.specs.Planned.{IsBestOfOffsets}
use Rattle.band_measure.specs.declared.bands.Bands.{Bands}
use Rattle.band_measure.proofs.Cuts.{cut_most}

-- wider bands weigh more
value_most : (k : ℚ) (n o i p q c : ℕ) → pos n ≡ k.num → 0 < c → o ≤ p → i ≤ q → ((number o +ℚ k *ℚ number i) /ℚ number c) ≤ℚ ((number p +ℚ k *ℚ number q) /ℚ number c)
value_most k n o i p q c e h l m =
    let d = mul-pos k.positive h in
    let f = mul-le-mul_left k.den l in
    let g = mul-le-mul_left n m in
    let s : (k.den * o + n * i) * (k.den * c) ≤ (k.den * p + n * q) * (k.den * c) = mul-le-mul_right (k.den * c) (omega (arith, f, g)) in
    let w : over (pos (k.den * o + n * i)) (k.den * c) ≤ℚ over (pos (k.den * p + n * q)) (k.den * c) =
    (over_≤ℚ (pos (k.den * o + n * i)) (pos (k.den * p + n * q)) (k.den * c) (k.den * c) d d).1 (omega (arith, ints, s)) in
    rw (weighted k n k.den o i c e refl h, weighted k n k.den p q c e refl h) at w

module _ (a : Street) (t : BaseRecord) (valid : IsValid a) (unit : 2 ≤ t.unit) (finer_pairs : FinerPairs) where
  -- a pair that runs is no wider than the widest
  no_wider : (d : Dir) (first band : ℕ) (x : ℤ) (b : ℕ) → IsWidest a t d first band → RunsOn a t d x b → b ≤ band
  no_wider d first band x b w g =
      let more = w.widest 1 (x *ℤ pos 1) (b * 1) (omega arith) ((finer_pairs a t d 1 x b valid unit (omega arith)).0 g) in
      omega (arith, more)

  module _ (there back : ℕ) (wide bands : Bands) (n : ℕ) (e : pos n ≡ a.head.ratio.num) (out : IsWidest a t Outbound there wide.outbound)
      (inward : IsWidest a t Inbound back wide.inbound) (cut : IsCut a wide bands) where
    of_lines : (x : ℤ) (b : ℕ) (y : ℤ) (c : ℕ) → Good a (banded x b y c t) → weighted_band a (banded x b y c t) ≤ℚ weighted_band a
        (banded (pos there) bands.outbound (pos back) bands.inbound t)
    of_lines x b y c g =
        let most = cut_most a n e wide bands cut b c (no_wider Outbound there wide.outbound x b out g.outbound) (no_wider Inbound back wide.inbound y c inward g.inbound) g.ratio g.equal in
        value_most a.head.ratio n b c bands.outbound bands.inbound (cycle a t) e (let l = valid.least_parts in grind arith) most.0 most.1

    best_of_lines : IsBestOfOffsets a (banded (pos there) bands.outbound (pos back) bands.inbound t)
    best_of_lines s h g =
        let same : s ≡ banded s.first_out s.band_out s.first_in s.band_in t = ap (banded s.first_out s.band_out s.first_in s.band_in) h in
        subst (λ r. weighted_band a r ≤ℚ weighted_band a (banded (pos there) bands.outbound (pos back) bands.inbound t)) (sym same)
        (of_lines s.first_out s.band_out s.first_in s.band_in (subst (λ r. Good a r) same g))

    pub best : (p : TimingRecord) → p ≡ banded (pos there) bands.outbound (pos back) bands.inbound t → IsBestOfOffsets a p
    best p is = subst (λ r. IsBestOfOffsets a r) (sym is) best_of_lines

-- no good timing is above a bound
pub loss_least : (a : Street) (claim : ℚ) (p : TimingRecord) → Good a p → Bounded a claim → number 0 ≤ℚ (claim -ℚ weighted_band a p)
loss_least a claim p g b = gap_not_negative (weighted_band a p) claim (b p g)
