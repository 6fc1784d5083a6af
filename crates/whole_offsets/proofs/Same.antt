-- Plans of the same offsets are judged alike.
use Rattle.std.proofs.Common.{◌≡◌, ℕ, pos, ◌*◌, ◌-◌, ◌≤◌, List, sym, ◌∙◌, ap, ap₂, subst, arith, inl, inr, unsigned_abs}
use Rattle.std.proofs.lemmas.Int.{ints}
use Rattle.rational_theory.specs.Rational.{◌+ℚ◌, ◌*ℚ◌, ◌/ℚ◌}
use Rattle.progression.specs.Street.{Street, least_band}
use Rattle.progression.specs.Speeds.{number}
use Rattle.progression.specs.TimingRecord.{TimingRecord, base, first, band}
use Rattle.progression.specs.BaseRecord.{BaseRecord, cycle}
use Rattle.progression.specs.Lines.{IsGreenWay}
use Rattle.progression.specs.Best.{weighted_band}
use Rattle.free_runs.specs.Free.{with_runs}
use Rattle.progression.specs.declared.parts.Dir.{Dir}
use Rattle.progression.specs.declared.parts.Dir.TheVariants.{Outbound, Inbound}
use Rattle.artery_model.specs.Valid.{IsValid}
use Rattle.band_measure.specs.declared.bands.Bands.{Bands}
use Rattle.band_measure.specs.Cut.{IsCut}
use Rattle.band_measure.proofs.Cuts.{one_cut_of}
use Rattle.whole_offsets.specs.Offsets.{IsOnOffsets, IsRival, IsWidth, IsPlanOf}
use Rattle.whole_offsets.specs.Score.{IsLack, AreWithoutLine, miss, IsScore, IsBetter, IsBetterPlan}
use Rattle.whole_offsets.specs.declared.score.Score.{Score}
use Rattle.whole_offsets.proofs.Cuts.{cut_within}
use Rattle.whole_offsets.proofs.Widths.{green_of}

-- two scores with the same numbers
pub record AreAlike (s r : Score) : Type 0 where
  pub lineless_same : s.lineless ≡ r.lineless
  pub misses_same : s.misses ≡ r.misses
  pub weighted_same : s.weighted ≡ r.weighted

alike_is : (s r : Score) → AreAlike s r → s ≡ r
alike_is s r h = λ i. record { lineless = h.lineless_same i; misses = h.misses_same i; weighted = h.weighted_same i }

abbrev bands_of : TimingRecord → Bands
bands_of p = record { outbound = p.band_out; inbound = p.band_in }

module _ (a : Street) (valid : IsValid a) (t : BaseRecord) (k : ℕ) (offsets : List ℕ) where
  ratio_is : pos (unsigned_abs a.head.ratio.num) ≡ a.head.ratio.num
  ratio_is = let l = valid.ratio.least in omega (arith, ints, l)

  module _ (p q : TimingRecord) (ps : IsPlanOf a t k offsets p) (qs : IsPlanOf a t k offsets q) where
    on : IsOnOffsets (base q) (base p)
    on = ps.on ∙ sym (ap (with_runs p.run_out p.run_in) qs.on)

    rival : (d : Dir) → IsRival a (base q) d (base p)
    rival d = record { offsets = on; speeds = ps.speeds d; pace = λ l. ps.pace l ∙ sym (qs.pace l) }

    no_wider : (d : Dir) (v w : ℕ) → IsWidth a (base p) d (first p d) v → IsWidth a (base q) d (first q d) w → v ≤ w
    no_wider d v w (inl h) (inl g) = g.widest (base p) (first p d) v (rival d) h.runs
    no_wider d v w (inl h) (inr g) = absurd (g.none (base p) (first p d) v (rival d) h.runs)
    no_wider d v w (inr h) g = let e = h.nothing in omega arith

    -- where one has a line so has the other
    green_by : (d : Dir) (w : ℕ) → IsWidth a (base q) d (first q d) w → band q d ≤ w → IsGreenWay a p d → IsGreenWay a q d
    green_by d w (inl h) l g = green_of a q d w h.runs l
    green_by d w (inr h) l g = absurd (h.none (base p) (first p d) (band p d) (rival d) g)

    green_too : (d : Dir) → IsGreenWay a p d → IsGreenWay a q d
    green_too d = let c = cut_within a (unsigned_abs a.head.ratio.num) ratio_is qs.wide (record { outbound = q.band_out; inbound = q.band_in }) qs.cut in
        elim d as (λ e. IsGreenWay a p e → IsGreenWay a q e) [ Outbound ↦ green_by Outbound qs.wide.outbound qs.outbound c.out | Inbound ↦ green_by Inbound qs.wide.inbound qs.inbound c.back ]

  module _ (p q : TimingRecord) (ps : IsPlanOf a t k offsets p) (qs : IsPlanOf a t k offsets q) where
    same_width : (d : Dir) (v w : ℕ) → IsWidth a (base p) d (first p d) v → IsWidth a (base q) d (first q d) w → v ≡ w
    same_width d v w h g = let l = no_wider p q ps qs d v w h g in let m = no_wider q p qs ps d w v g h in omega arith

    same_wide : ps.wide ≡ qs.wide
    same_wide = λ i. record {
      outbound = same_width Outbound ps.wide.outbound qs.wide.outbound ps.outbound qs.outbound i;
      inbound = same_width Inbound ps.wide.inbound qs.wide.inbound ps.inbound qs.inbound i;
    }

    same_cut : bands_of p ≡ bands_of q
    same_cut = one_cut_of a (unsigned_abs a.head.ratio.num) ratio_is qs.wide (bands_of p) (bands_of q) (subst (λ w. IsCut a w (bands_of p)) same_wide ps.cut) qs.cut

    band_same : (d : Dir) → band p d ≡ band q d
    band_same Outbound = ap (λ (b : Bands). b.outbound) same_cut
    band_same Inbound = ap (λ (b : Bands). b.inbound) same_cut

    cycle_same : cycle a (base p) ≡ cycle a (base q)
    cycle_same = ap (cycle a) ps.on ∙ sym (ap (cycle a) qs.on)

    miss_same : (d : Dir) → miss a p d ≡ miss a q d
    miss_same d = ap₂ (λ c b. number (unsigned_abs (least_band a d).num * c - b * (least_band a d).den) /ℚ number ((least_band a d).den * c)) cycle_same (band_same d)

    weighted_same : weighted_band a p ≡ weighted_band a q
    weighted_same =
        ap₂ (λ o i. (number o +ℚ a.head.ratio *ℚ number i) /ℚ number (cycle a (base p))) (band_same Outbound) (band_same Inbound)
        ∙ ap (λ c. (number q.band_out +ℚ a.head.ratio *ℚ number q.band_in) /ℚ number c) cycle_same

    lack_same : (d : Dir) (m n : ℕ) → IsLack a p d m → IsLack a q d n → m ≡ n
    lack_same d m n (inl h) (inl g) = h.1 ∙ sym g.1
    lack_same d m n (inl h) (inr g) = absurd (g.0 (green_too p q ps qs d h.0))
    lack_same d m n (inr h) (inl g) = absurd (h.0 (green_too q p qs ps d g.0))
    lack_same d m n (inr h) (inr g) = h.1 ∙ sym g.1

    lineless_same : (m n : ℕ) → AreWithoutLine a p m → AreWithoutLine a q n → m ≡ n
    lineless_same m n h g =
        let e = lack_same Outbound h.out g.out h.outbound g.outbound in
        let f = lack_same Inbound h.back g.back h.inbound g.inbound in
        let i = h.both in let j = g.both in omega arith

    pub score_same : (s r : Score) → IsScore a p s → IsScore a q r → s ≡ r
    score_same s r h g = alike_is s r (record {
      lineless_same = lineless_same s.lineless r.lineless h.lineless g.lineless;
      misses_same = h.misses ∙ ap₂ (λ x y. x +ℚ y) (miss_same Outbound) (miss_same Inbound) ∙ sym g.misses;
      weighted_same = h.weighted ∙ weighted_same ∙ sym g.weighted;
    })

-- a plan whose score is no better is no better, nor is another of the same offsets
pub no_better_plan : (a : Street) → IsValid a → (t : BaseRecord) (k : ℕ) (offsets others : List ℕ) (p q r : TimingRecord) (x y : Score)
    → IsPlanOf a t k others p → IsPlanOf a t k others q → IsPlanOf a t k offsets r → IsScore a q x → IsScore a r y → ¬ IsBetter x y → ¬ IsBetterPlan a p r
no_better_plan a valid t k offsets others p q r x y ps qs rs xs ys n b =
    let e = score_same a valid t k others p q ps qs b.one x b.one_is xs in
    let f = score_same a valid t k offsets r r rs rs b.other y b.other_is ys in
    n (subst (λ z. IsBetter z y) e (subst (λ z. IsBetter b.one z) f b.better))
