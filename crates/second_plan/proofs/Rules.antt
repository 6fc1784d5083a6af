-- The plan keeps the rules of a base, and of those of bands only a least band may fail.
use Rattle.std.proofs.Common.{◌≡◌, ℕ, ℤ, pos, unsigned_abs, ◌≤ℤ◌, ◌*◌, ◌≤◌, List, length, refl, sym, ◌∙◌, ap, subst, arith}
use Rattle.std.proofs.lemmas.List.{length-map}
use Rattle.std.proofs.lemmas.Int.{ints}
use Rattle.std.proofs.Math.Nat.{mul-le-mul_right}
use Rattle.std.specs.Prelude.{IfSome}
use Rattle.rational_theory.specs.Rational.{whole, ◌*ℚ◌, ◌≤ℚ◌}
use Rattle.rational_theory.proofs.Order.{≤ℚ-*ℚ, whole-*ℤ, whole-≤ℤ}
use Rattle.progression.specs.Street.{Street, count}
use Rattle.progression.specs.Speeds.{number, run_low, run_high, change}
use Rattle.progression.specs.TimingRecord.{TimingRecord, base, banded}
use Rattle.progression.specs.BaseRecord.{BaseRecord, cycle, run}
use Rattle.progression.specs.Lines.{IsGreenWay, RunsOn}
use Rattle.progression.specs.Good.{IsBase, RatioHolds, HasEqualBands, pace_change}
use Rattle.progression.specs.declared.parts.Pair.{Pair}
use Rattle.progression.specs.declared.parts.Dir.{Dir}
use Rattle.progression.specs.declared.parts.Dir.TheVariants.{Outbound, Inbound}
use Rattle.artery_model.specs.Valid.{IsValid}
use Rattle.time_space.specs.Finer.{finer_base}
use Rattle.time_space.specs.FirstFailing.{IsFirstFailing}
use Rattle.time_space.specs.declared.failing.Failing.{Failing}
use Rattle.time_space.specs.declared.failing.Failing.TheVariants as failing
use Rattle.time_space.proofs.FinerGrids.{base_both}
use Rattle.time_space.proofs.Firsts.{not_both, after_base}
use Rattle.second_plan.specs.Seconds.{IsWholeCycle}
use Rattle.band_measure.specs.Cut.{IsCut}
use Rattle.band_measure.specs.declared.bands.Bands.{Bands}
use Rattle.band_measure.proofs.Cuts.{cut_ratio, cut_equal}
use Rattle.second_plan.specs.Grid.{fineness, in_seconds}

pub natural : (z : ℤ) → pos 0 ≤ℤ z → pos (unsigned_abs z) ≡ z
natural z h = omega (arith, ints)

module _ (a : Street) (t : BaseRecord) (valid : IsValid a) (base : IsBase a t) (k : ℕ) (offsets : List ℕ) (whole_cycle : IsWholeCycle a k) (some : 1 ≤ k) (long : length offsets ≡ count a) where
  fine_least : 1 ≤ fineness a
  fine_least = let p = valid.least_parts in omega arith

  -- the base on the grid that is as fine as the plan's
  fine_base : IsBase a (finer_base (fineness a) t)
  fine_base = (base_both a t (fineness a) valid base.formed.unit fine_least).0 base

  pub unit_least : 2 ≤ 2 * k * t.grid
  unit_least = let g = base.formed.grid in let m : 1 * 1 ≤ k * t.grid = grind (arith, mul-le-mul_right) in omega (arith, m)

  cycle_is : cycle a (in_seconds a t k offsets) ≡ k * (t.grid * fineness a)
  cycle_is = omega arith

  -- its limits of the cycle are those of k seconds
  seconds_times : number (cycle a (in_seconds a t k offsets)) ≡ number k *ℚ number (t.grid * fineness a)
  seconds_times = ap number cycle_is ∙ whole-*ℤ (pos k) (pos (t.grid * fineness a))

  not_negative : whole (pos 0) ≤ℚ number (t.grid * fineness a)
  not_negative = whole-≤ℤ (pos 0) (pos (t.grid * fineness a)) (omega (arith, ints))

  cycle_least : (a.head.cycle.least *ℚ number (t.grid * fineness a)) ≤ℚ number (cycle a (in_seconds a t k offsets))
  cycle_least = subst (λ z. (a.head.cycle.least *ℚ number (t.grid * fineness a)) ≤ℚ z) (sym seconds_times)
      (≤ℚ-*ℚ a.head.cycle.least (number k) (number (t.grid * fineness a)) whole_cycle.least not_negative)

  cycle_most : number (cycle a (in_seconds a t k offsets)) ≤ℚ (a.head.cycle.most *ℚ number (t.grid * fineness a))
  cycle_most = subst (λ z. z ≤ℚ (a.head.cycle.most *ℚ number (t.grid * fineness a))) (sym seconds_times)
      (≤ℚ-*ℚ (number k) a.head.cycle.most (number (t.grid * fineness a)) whole_cycle.most not_negative)

  abbrev plan : BaseRecord
  plan = in_seconds a t k offsets

  run_same : (d : Dir) (i : ℕ) → run plan d i ≡ run (finer_base (fineness a) t) d i
  run_same Outbound i = refl
  run_same Inbound i = refl

  pace_same : (d : Dir) (i : ℕ) → pace_change a plan d i ≡ pace_change a (finer_base (fineness a) t) d i
  pace_same Outbound i = refl
  pace_same Inbound i = refl

  pub plan_base : IsBase a plan
  plan_base = record {
    formed = record {
      grid = fine_base.formed.grid;
      unit = unit_least;
      reds = length-map offsets (λ offset. pos (offset * (t.grid * fineness a))) ∙ long ∙ sym base.shape;
      run_out = fine_base.formed.run_out;
      run_in = fine_base.formed.run_in;
    };
    shape = base.shape;
    patterns = base.patterns;
    cycle_least = cycle_least;
    cycle_most = cycle_most;
    fast = λ d i l. subst (λ n. (run_low a d i *ℚ number (t.grid * fineness a)) ≤ℚ number n) (sym (run_same d i)) (fine_base.fast d i l);
    slow = λ d i l. subst (λ n. number n ≤ℚ (run_high a d i *ℚ number (t.grid * fineness a))) (sym (run_same d i)) (fine_base.slow d i l);
    rise = λ d i l m. subst (λ p. IfSome (change a d i) (λ (s : Pair). p ≤ℚ (s.most *ℚ number (t.grid * fineness a)))) (sym (pace_same d i)) (fine_base.rise d i l m);
    drop = λ d i l m. subst (λ p. IfSome (change a d i) (λ (s : Pair). (s.least *ℚ number (t.grid * fineness a)) ≤ℚ p)) (sym (pace_same d i)) (fine_base.drop d i l m);
  }

-- a narrower band runs too
runs_narrow : (a : Street) (t : BaseRecord) (d : Dir) (x : ℤ) (b c : ℕ) → c ≤ b → RunsOn a t d x b → RunsOn a t d x c
runs_narrow a t d x b c l g = λ j m s q. g j m s (omega (arith, l, q))

-- ---- what may fail
module _ (a : Street) (p : TimingRecord) (keeps : IsBase a (base p)) (ratio : RatioHolds a.head.ratio p.band_out p.band_in) (equal : HasEqualBands a p)
    (outbound : IsGreenWay a p Outbound) (inbound : IsGreenWay a p Inbound) where
  pub only_least : (f : Failing) → IsFirstFailing a p f → (d : Dir) × (f ≡ failing.Least d)
  only_least failing.Ratio h = absurd (h.fails ratio)
  only_least (failing.Least d) h = (d, refl)
  only_least failing.Equal h = absurd (h.fails equal)
  only_least (failing.Outbound i tick) h = let w = h.fails in absurd (not_both a p Outbound w.at w.here.after (outbound w.at w.on_way) w.here.blocked)
  only_least (failing.Inbound i tick) h = let w = h.fails in absurd (not_both a p Inbound w.at w.here.after (inbound w.at w.on_way) w.here.blocked)
  only_least f h = let rule = after_base a p keeps f h.fails in absurd (omega (arith, rule))

-- ---- of a plan whose bands are cut
module _ (a : Street) (t : BaseRecord) (valid : IsValid a) (base : IsBase a t) (k : ℕ) (offsets : List ℕ) (whole_cycle : IsWholeCycle a k) (some : 1 ≤ k)
    (long : length offsets ≡ count a) where
  pub least_alone : (x : ℕ) (o : ℕ) (y : ℕ) (i : ℕ) (wide bands : Bands) → IsCut a wide bands → o ≤ wide.outbound → i ≤ wide.inbound → o ≡ bands.outbound → i ≡ bands.inbound
      → RunsOn a (in_seconds a t k offsets) Outbound (pos x) wide.outbound → RunsOn a (in_seconds a t k offsets) Inbound (pos y) wide.inbound
      → (p : TimingRecord) → p ≡ banded (pos x) o (pos y) i (in_seconds a t k offsets) → (f : Failing) → IsFirstFailing a p f → (d : Dir) × (f ≡ failing.Least d)
  least_alone x o y i wide bands cut l m q r out inward p is f first =
      let plan = banded (pos x) o (pos y) i (in_seconds a t k offsets) in
      let n = unsigned_abs a.head.ratio.num in
      let e = natural a.head.ratio.num (let w = valid.ratio.least in omega (arith, ints)) in
      only_least a plan
      (plan_base a t valid base k offsets whole_cycle some long)
      (subst (λ v. RatioHolds a.head.ratio o v) (sym r) (subst (λ v. RatioHolds a.head.ratio v bands.inbound) (sym q) (cut_ratio a n e wide bands cut)))
      (λ equal. q ∙ cut_equal a n e wide bands cut equal ∙ sym r)
      (runs_narrow a (in_seconds a t k offsets) Outbound (pos x) wide.outbound o l out)
      (runs_narrow a (in_seconds a t k offsets) Inbound (pos y) wide.inbound i m inward)
      f (subst (λ r. IsFirstFailing a r f) is first)
