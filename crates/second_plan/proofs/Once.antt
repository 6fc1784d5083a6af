-- A base's plan is determined, and so is the end that comes where there is none.
use Rattle.std.proofs.Common.{◌≡◌, ℕ, zero, suc, pos, ◌*ℤ◌, unsigned_abs, ◌-◌, ◌*◌, ◌%◌, ◌≤◌, List, get_or, Some, refl, sym, ◌∙◌, ap, subst, arith}
use Rattle.std.proofs.lemmas.Int.{ints}
use Rattle.std.proofs.lemmas.List.{ext_get_or}
use Rattle.rational_theory.specs.Rational.{ℚ, ◌-ℚ◌}
use Rattle.rational_theory.proofs.Arithmetic.{own_ratio, whole_ratio, ≤ℚ_out}
use Rattle.progression.specs.Street.{Street, HasSignal}
use Rattle.progression.specs.BaseRecord.{BaseRecord}
use Rattle.progression.specs.TimingRecord.{TimingRecord, banded}
use Rattle.progression.specs.Best.{weighted_band}
use Rattle.progression.specs.Good.{IsBase, Good}
use Rattle.progression.specs.declared.parts.Dir.{Dir}
use Rattle.progression.specs.declared.parts.Dir.TheVariants.{Outbound, Inbound}
use Rattle.artery_model.specs.Valid.{IsValid}
use Rattle.time_space.specs.FirstFailing.{IsFirstFailing}
use Rattle.time_space.specs.declared.failing.Failing.{Failing}
use Rattle.time_space.proofs.OnlyFirst.{one_first}
use Rattle.time_space.proofs.RulesOut.{rules_out}
use Rattle.band_measure.specs.Widest.{IsWidest, NoneRuns}
use Rattle.band_measure.proofs.AllGrids.{finer_pairs, one_widest}
use Rattle.narrow_fraction.specs.Past128.{Fits128}
use Rattle.narrow_fraction.specs.declared.wide.Op.TheVariants.{Sub}
use Rattle.narrow_fraction.specs.declared.wide.Wide.{Wide}
use Rattle.second_plan.specs.Nearest.{apart, IsNearest}
use Rattle.second_plan.specs.Seconds.{IsWholeCycle, IsSeconds, IsOffset, AreOffsets}
use Rattle.second_plan.specs.Grid.{in_seconds, too_fine}
use Rattle.band_measure.specs.Cut.{IsCut}
use Rattle.second_plan.specs.Planned.{AreWhole, IsPlanned, IsAnswer}
use Rattle.second_plan.specs.Ends.{IsTooFine, HasNoLine, IsRefused, IsPastLoss, Ends, OneEnd, PlanOrEnd, OnePlan}
use Rattle.band_measure.specs.declared.bands.Bands.{Bands}
use Rattle.second_plan.specs.declared.answer.Plan.{Plan as Answer}
use Rattle.second_plan.specs.declared.answer.PlanEnd.{PlanEnd}
use Rattle.second_plan.specs.declared.answer.PlanEnd.TheVariants as end
use Rattle.band_measure.proofs.Cuts.{one_cut_of}
use Rattle.second_plan.proofs.Rules.{natural, unit_least}

-- one number is nearest, of two the lesser
one_nearest : (P : ℕ → Type 0) (n d k j : ℕ) → IsNearest P n d k → IsNearest P n d j → k ≡ j
one_nearest P n d k j p q =
    let e = p.nearest j q.allowed in
    let f = q.nearest k p.allowed in
    let same : apart (j * d) n ≡ apart (k * d) n = omega (arith, e, f) in
    let l = p.lesser j q.allowed same in
    let m = q.lesser k p.allowed (sym same) in
    omega (arith, l, m)

one_offset : (a : Street) (t : BaseRecord) (k i o u : ℕ) → IsOffset a t k i o → IsOffset a t k i u → o ≡ u
one_offset a t k i o u p q = p.within ∙ ap (λ r. r % k) (one_nearest _ _ _ _ _ p.near q.near) ∙ sym q.within

offsets_once : (a : Street) (t : BaseRecord) (k : ℕ) (os us : List ℕ) → AreOffsets a t k os → AreOffsets a t k us → os ≡ us
offsets_once a t k os us p q =
    let long = p.each_has in
    ext_get_or 0 os us (p.each_has ∙ sym q.each_has) (λ i l.
    let has : HasSignal a (suc i) = (omega arith, omega (arith, long, l)) in
    let here : suc i - 1 ≡ i = omega arith in
    one_offset a t k (suc i) (get_or os i 0) (get_or us i 0)
    (subst (λ j. IsOffset a t k (suc i) (get_or os j 0)) here (p.each (suc i) has))
    (subst (λ j. IsOffset a t k (suc i) (get_or us j 0)) here (q.each (suc i) has)))

module _ (a : Street) (t : BaseRecord) (valid : IsValid a) (keeps : IsBase a t) where
  seconds_once : (k j : ℕ) → IsSeconds a t k → IsSeconds a t j → k ≡ j
  seconds_once k j p q = one_nearest _ _ _ k j p q

  -- the seconds and the offsets are determined
  whole_once : (k j : ℕ) (os us : List ℕ) → AreWhole a t k os → AreWhole a t j us → (k ≡ j) × (os ≡ us)
  whole_once k j os us p q =
      let e = seconds_once k j p.seconds q.seconds in
      (e, offsets_once a t k os us p.rounded (subst (λ n. AreOffsets a t n us) (sym e) q.rounded))

  some_second : (k : ℕ) → IsSeconds a t k → 1 ≤ k
  some_second zero p =
      let c = ≤ℚ_out _ _ _ _ _ _ _ _ (own_ratio a.head.cycle.least) (whole_ratio (pos 0)) p.allowed.least in
      let least = valid.cycle.least.least in
      let some = a.head.cycle.least.positive in
      absurd (omega (arith, ints, c, least, some))
  some_second (suc k) p = omega arith

  module _ (k : ℕ) (os : List ℕ) (w : AreWhole a t k os) where
    frame_unit : 2 ≤ 2 * k * t.grid
    frame_unit = unit_least a t valid keeps k os w.seconds.allowed (some_second k w.seconds) w.rounded.each_has

    -- where a direction has a widest pair some line runs
    runs_some : (d : Dir) (first band : ℕ) → IsWidest a (in_seconds a t k os) d first band → ¬ NoneRuns a (in_seconds a t k os) d
    runs_some d first band p none = none 1 (pos first *ℤ pos 1) (band * 1) (omega arith) ((finer_pairs a (in_seconds a t k os) d 1 (pos first) band valid frame_unit (omega arith)).0 p.runs)

    plan_here : (p q : TimingRecord) → IsPlanned a t k os p → IsPlanned a t k os q → p ≡ q
    plan_here p q h g =
        let out = one_widest a (in_seconds a t k os) Outbound h.there.first h.there.band g.there.first g.there.band valid frame_unit h.widest_out g.widest_out in
        let back = one_widest a (in_seconds a t k os) Inbound h.back.first h.back.band g.back.first g.back.band valid frame_unit h.widest_in g.widest_in in
        let wide : ◌≡◌ {A = Bands} (record { outbound = h.there.band; inbound = h.back.band }) (record { outbound = g.there.band; inbound = g.back.band }) =
        λ i. record { outbound = out.1 i; inbound = back.1 i } in
        let bands : h.bands ≡ g.bands = one_cut_of a (unsigned_abs a.head.ratio.num) (natural a.head.ratio.num (let r = valid.ratio.least in omega (arith, ints, r)))
        (record { outbound = g.there.band; inbound = g.back.band }) h.bands g.bands (subst (λ (b : Bands). IsCut a b h.bands) wide h.cut) g.cut in
        let same : banded (pos h.there.first) h.bands.outbound (pos h.back.first) h.bands.inbound (in_seconds a t k os) ≡ banded (pos g.there.first)
        g.bands.outbound (pos g.back.first) g.bands.inbound (in_seconds a t k os) =
        λ i. banded (pos (out.0 i)) ((bands i).outbound) (pos (back.0 i)) ((bands i).inbound) (in_seconds a t k os) in
        h.timing ∙ same ∙ sym g.timing

  planned_once : (k j : ℕ) (os us : List ℕ) (p q : TimingRecord) → IsPlanned a t k os p → IsPlanned a t j us q → p ≡ q
  planned_once k j os us p q h g =
      let w = whole_once k j os us h.whole g.whole in
      plan_here k os h.whole p q h (subst (λ n. IsPlanned a t n os q) (sym w.0) (subst (λ xs. IsPlanned a t j xs q) (sym w.1) g))

  -- ---- ends that cannot come together
  none_whole : (k : ℕ) → ((j : ℕ) → ¬ IsWholeCycle a j) → IsSeconds a t k → ⊥
  none_whole k n p = n k p.allowed

  fine_or_not : (ticks k : ℕ) (os : List ℕ) → IsTooFine a t ticks → AreWhole a t k os → ⊥
  fine_or_not ticks k os p w =
      let e = seconds_once p.k k p.seconds w.seconds in
      let some : too_fine a t k ≡ Some ticks = subst (λ n. too_fine a t n ≡ Some ticks) e p.first in
      let none = w.fine in
      absurd (cc)

  line_or_not : (d : Dir) (k : ℕ) (os : List ℕ) (p : TimingRecord) → HasNoLine a t d → IsPlanned a t k os p → ⊥
  line_or_not d k os p h g = by d h
    where
      by : (d : Dir) → HasNoLine a t d → ⊥
      by Outbound h =
          let w = whole_once h.k k h.offsets os h.whole g.whole in
          runs_some k os g.whole Outbound g.there.first g.there.band g.widest_out (subst (λ n. NoneRuns a (in_seconds a t n os) Outbound) w.0
          (subst (λ xs. NoneRuns a (in_seconds a t h.k xs) Outbound) w.1 h.none))
      by Inbound h =
          let w = whole_once h.k k h.offsets os h.whole g.whole in
          runs_some k os g.whole Inbound g.back.first g.back.band g.widest_in (subst (λ n. NoneRuns a (in_seconds a t n os) Inbound) w.0
          (subst (λ xs. NoneRuns a (in_seconds a t h.k xs) Inbound) w.1 h.none))

  one_direction : HasNoLine a t Outbound → HasNoLine a t Inbound → ⊥
  one_direction p q =
      let w = whole_once p.k q.k p.offsets q.offsets p.whole q.whole in
      q.before refl (subst (λ n. NoneRuns a (in_seconds a t n q.offsets) Outbound) w.0 (subst (λ xs. NoneRuns a (in_seconds a t p.k xs) Outbound) w.1 p.none))

  good_or_not : (f : Failing) (k : ℕ) (os : List ℕ) (p : TimingRecord) → IsRefused a t f → IsPlanned a t k os p → Good a p → ⊥
  good_or_not f k os p h g b =
      let same = planned_once h.k k h.offsets os h.plan p h.planned g in
      rules_out a h.plan f h.first.fails (subst (λ r. Good a r) (sym same) b)

  -- ---- one end, or one plan
  no_end : (claim : ℚ) (p : Answer) (e : PlanEnd) → IsAnswer a claim t p → Ends a claim t e → ⊥
  no_end claim p end.NoTimingGiven h g = g
  no_end claim p end.NoWholeCycle h g = none_whole p.seconds g h.planned.whole.seconds
  no_end claim p (end.TooFine n) h g = fine_or_not n p.seconds p.offsets.items g h.planned.whole
  no_end claim p (end.NoLine d) h g = line_or_not d p.seconds p.offsets.items p.timing g h.planned
  no_end claim p (end.Fails f) h g = good_or_not f p.seconds p.offsets.items p.timing g h.planned h.good
  no_end claim p (end.Wide w) h g =
      let same = planned_once g.k p.seconds g.offsets p.offsets.items g.plan p.timing g.planned h.planned in
      g.past (subst (λ r. Fits128 Sub claim (weighted_band a r)) (sym same) h.fits)

  two_lines : (d e : Dir) → HasNoLine a t d → HasNoLine a t e → d ≡ e
  two_lines Outbound Outbound p q = refl
  two_lines Outbound Inbound p q = absurd (one_direction p q)
  two_lines Inbound Outbound p q = absurd (one_direction q p)
  two_lines Inbound Inbound p q = refl

  two_sizes : (m n : ℕ) → IsTooFine a t m → IsTooFine a t n → m ≡ n
  two_sizes m n p q =
      let e = seconds_once p.k q.k p.seconds q.seconds in
      let first : too_fine a t q.k ≡ Some m = subst (λ k. too_fine a t k ≡ Some m) e p.first in
      let second = q.first in
      cc

  two_failings : (f g : Failing) → IsRefused a t f → IsRefused a t g → f ≡ g
  two_failings f g p q =
      let same = planned_once p.k q.k p.offsets q.offsets p.plan q.plan p.planned q.planned in
      one_first a q.plan f g (subst (λ r. IsFirstFailing a r f) same p.first) q.first

  two_losses : (claim : ℚ) (v w : Wide) → IsPastLoss a claim t v → IsPastLoss a claim t w → v ≡ w
  two_losses claim v w p q =
      let same = planned_once p.k q.k p.offsets q.offsets p.plan q.plan p.planned q.planned in
      let wide : ◌≡◌ {A = Wide} (record { op = Sub; left = claim; right = weighted_band a p.plan }) (record { op = Sub; left = claim; right = weighted_band a q.plan }) =
      λ i. record { op = Sub; left = claim; right = weighted_band a (same i) } in
      p.wide ∙ wide ∙ sym q.wide

  one_end_of : (claim : ℚ) (e f : PlanEnd) → Ends a claim t e → Ends a claim t f → e ≡ f
  one_end_of claim end.NoTimingGiven f p q = absurd p
  one_end_of claim end.NoWholeCycle end.NoTimingGiven p q = absurd q
  one_end_of claim end.NoWholeCycle end.NoWholeCycle p q = refl
  one_end_of claim end.NoWholeCycle (end.TooFine n) p q = absurd (none_whole q.k p q.seconds)
  one_end_of claim end.NoWholeCycle (end.NoLine d) p q = absurd (none_whole q.k p q.whole.seconds)
  one_end_of claim end.NoWholeCycle (end.Fails f) p q = absurd (none_whole q.k p q.planned.whole.seconds)
  one_end_of claim end.NoWholeCycle (end.Wide w) p q = absurd (none_whole q.k p q.planned.whole.seconds)
  one_end_of claim (end.TooFine m) end.NoTimingGiven p q = absurd q
  one_end_of claim (end.TooFine m) end.NoWholeCycle p q = absurd (none_whole p.k q p.seconds)
  one_end_of claim (end.TooFine m) (end.TooFine n) p q = ap end.TooFine (two_sizes m n p q)
  one_end_of claim (end.TooFine m) (end.NoLine d) p q = absurd (fine_or_not m q.k q.offsets p q.whole)
  one_end_of claim (end.TooFine m) (end.Fails f) p q = absurd (fine_or_not m q.k q.offsets p q.planned.whole)
  one_end_of claim (end.TooFine m) (end.Wide w) p q = absurd (fine_or_not m q.k q.offsets p q.planned.whole)
  one_end_of claim (end.NoLine d) end.NoTimingGiven p q = absurd q
  one_end_of claim (end.NoLine d) end.NoWholeCycle p q = absurd (none_whole p.k q p.whole.seconds)
  one_end_of claim (end.NoLine d) (end.TooFine n) p q = absurd (fine_or_not n p.k p.offsets q p.whole)
  one_end_of claim (end.NoLine d) (end.NoLine e) p q = ap end.NoLine (two_lines d e p q)
  one_end_of claim (end.NoLine d) (end.Fails f) p q = absurd (line_or_not d q.k q.offsets q.plan p q.planned)
  one_end_of claim (end.NoLine d) (end.Wide w) p q = absurd (line_or_not d q.k q.offsets q.plan p q.planned)
  one_end_of claim (end.Fails f) end.NoTimingGiven p q = absurd q
  one_end_of claim (end.Fails f) end.NoWholeCycle p q = absurd (none_whole p.k q p.planned.whole.seconds)
  one_end_of claim (end.Fails f) (end.TooFine n) p q = absurd (fine_or_not n p.k p.offsets q p.planned.whole)
  one_end_of claim (end.Fails f) (end.NoLine d) p q = absurd (line_or_not d p.k p.offsets p.plan q p.planned)
  one_end_of claim (end.Fails f) (end.Fails g) p q = ap end.Fails (two_failings f g p q)
  one_end_of claim (end.Fails f) (end.Wide w) p q = absurd (good_or_not f q.k q.offsets q.plan p q.planned q.good)
  one_end_of claim (end.Wide v) end.NoTimingGiven p q = absurd q
  one_end_of claim (end.Wide v) end.NoWholeCycle p q = absurd (none_whole p.k q p.planned.whole.seconds)
  one_end_of claim (end.Wide v) (end.TooFine n) p q = absurd (fine_or_not n p.k p.offsets q p.planned.whole)
  one_end_of claim (end.Wide v) (end.NoLine d) p q = absurd (line_or_not d p.k p.offsets p.plan q p.planned)
  one_end_of claim (end.Wide v) (end.Fails f) p q = absurd (good_or_not f p.k p.offsets p.plan q p.planned p.good)
  one_end_of claim (end.Wide v) (end.Wide w) p q = ap end.Wide (two_losses claim v w p q)

  one_plan_of : (claim : ℚ) (p q : Answer) → IsAnswer a claim t p → IsAnswer a claim t q
      → (p.seconds ≡ q.seconds) × (p.offsets.items ≡ q.offsets.items) × (p.timing ≡ q.timing) × (p.loss ≡ q.loss)
  one_plan_of claim p q h g =
      let w = whole_once p.seconds q.seconds p.offsets.items q.offsets.items h.planned.whole g.planned.whole in
      let same = planned_once p.seconds q.seconds p.offsets.items q.offsets.items p.timing q.timing h.planned g.planned in
      (w.0, w.1, same, h.loss ∙ ap (λ r. claim -ℚ weighted_band a r) same ∙ sym g.loss)

pub one_end : OneEnd
one_end a claim t e f valid keeps p q = one_end_of a t valid keeps claim e f p q

pub plan_or_end : PlanOrEnd
plan_or_end a claim t p e valid keeps h g = no_end a t valid keeps claim p e h g

pub one_plan : OnePlan
one_plan a claim t p q valid keeps h g = one_plan_of a t valid keeps claim p q h g
