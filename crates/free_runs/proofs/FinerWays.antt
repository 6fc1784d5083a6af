-- Finer grids bring nothing where the limits of the runs are whole ticks.
use Rattle.std.proofs.Common.{◌≡◌, ℕ, zero, suc, ℤ, pos, ◌*ℤ◌, ◌+◌, ◌*◌, ◌<◌, ◌≤◌, ◌^◌, List, ap, subst, arith, Option, None, Some}
use Rattle.std.specs.Prelude.{MatchOption, ◌↔◌}
use Rattle.std.proofs.Math.Nat.{mul-le-mul_right, le_of_mul-le-mul_right}
use Rattle.std.proofs.lemmas.Int.{ints}
use Rattle.rational_theory.specs.Rational.{ℚ, ◌*ℚ◌, ◌≤ℚ◌}
use Rattle.rational_theory.proofs.Order.{≤ℚ_refl}
use Rattle.progression.specs.Street.{Street, count}
use Rattle.progression.specs.Speeds.{number, run_low, run_high}
use Rattle.progression.specs.BaseRecord.{BaseRecord, cycle, run}
use Rattle.progression.specs.Lines.{stop, leg, crossing_from, RunsOn}
use Rattle.progression.specs.declared.parts.Dir.{Dir}
use Rattle.time_space.specs.Finer.{finer_base}
use Rattle.time_space.proofs.GridLimits.{least_is, most_is}
use Rattle.time_space.proofs.FinerGrids.{cycle_finer, red_start_finer, red_ticks_finer}
use Rattle.band_measure.proofs.Gaps.{times_times}
use Rattle.free_band.specs.Way.{Way, way, IsWay, Runs, NoneRunsFiner, IsWidestFiner, crossing, finer as finer_way, least_of, most_of}
use Rattle.free_band.specs.declared.way.WaySignal.{WaySignal}
use Rattle.free_band.specs.declared.way.WayLink.{WayLink}
use Rattle.free_band.specs.declared.way.FreeBand.{FreeBand}
use Rattle.free_runs.specs.Free.{with_runs, KeepsSpeeds, AreWholeLimits, NoneFreeFiner, IsWidestFree}
use Rattle.free_runs.specs.Street.{IsWayOf}
use Rattle.free_runs.proofs.Outer.{IsOuterWayOf}
use Rattle.free_runs.proofs.Ways.{leg_is}

-- ---- limits
whole_is : (x : ℚ) (g low : ℕ) → x *ℚ number g ≡ number low → x.num *ℤ pos g ≡ pos x.den *ℤ pos low
whole_is x g low e =
    let f = (least_is x g low).1 (subst (λ y. (x *ℚ number g) ≤ℚ y) e (≤ℚ_refl (x *ℚ number g))) in
    let h = (most_is x g low).1 (subst (λ y. y ≤ℚ (x *ℚ number g)) e (≤ℚ_refl (x *ℚ number g))) in
    omega (arith, ints, f, h)

module _ (x : ℚ) (g whole limit m n : ℕ) (e : x *ℚ number g ≡ number whole) where
  fine_is : x.num *ℤ pos (g * m) ≡ pos ((whole * m) * x.den)
  fine_is =
      let f = whole_is x g whole e in
      let t = times_times x.num g m in
      let s = ap (λ z. z *ℤ pos m) f in
      omega (arith, ints, t, s)

  pub fine_low : ((k : ℕ) → ((x *ℚ number g) ≤ℚ number k) ↔ (limit ≤ k)) → (x *ℚ number (g * m)) ≤ℚ number n → limit * m ≤ n
  fine_low f h =
      let l : limit ≤ whole = (f whole).0 (subst (λ y. (x *ℚ number g) ≤ℚ y) e (≤ℚ_refl (x *ℚ number g))) in
      let k = (least_is x (g * m) n).1 h in
      let i = fine_is in
      let c : (whole * m) * x.den ≤ n * x.den = omega (arith, ints, i, k) in
      let r : whole * m ≤ n = le_of_mul-le-mul_right c x.positive in
      let q : limit * m ≤ whole * m = mul-le-mul_right m l in
      omega (arith, r, q)

  pub fine_high : ((k : ℕ) → (number k ≤ℚ (x *ℚ number g)) ↔ (k ≤ limit)) → number n ≤ℚ (x *ℚ number (g * m)) → n ≤ limit * m
  fine_high f h =
      let l : whole ≤ limit = (f whole).0 (subst (λ y. y ≤ℚ (x *ℚ number g)) e (≤ℚ_refl (x *ℚ number g))) in
      let k = (most_is x (g * m) n).1 h in
      let i = fine_is in
      let c : n * x.den ≤ (whole * m) * x.den = omega (arith, ints, i, k) in
      let r : n ≤ whole * m = le_of_mul-le-mul_right c x.positive in
      let q : whole * m ≤ limit * m = mul-le-mul_right m l in
      omega (arith, r, q)

module _ (a : Street) (t : BaseRecord) (d : Dir) (signals : List WaySignal) (links : List WayLink) (h : IsOuterWayOf a t d signals links) (m : ℕ) (q : 1 ≤ m) (out ins : List ℕ)
    (k : KeepsSpeeds a (with_runs out ins (finer_base m t)) d) where
  abbrev w : Way
  w = way (cycle a t) signals links

  abbrev u : BaseRecord
  u = with_runs out ins (finer_base m t)

  abbrev taken : ℕ → ℕ
  taken j = run u d (leg d (count a) j)

  low : (j : ℕ) → j + 1 < count a → least_of links j * m ≤ taken j
  low j l = let i = leg_is d (count a) j l in (h.legs j l).limits.fast m (taken j) (k.fast (leg d (count a) j) i)

  high : (j : ℕ) → j + 1 < count a → taken j ≤ most_of links j * m
  high j l = let i = leg_is d (count a) j l in (h.legs j l).limits.slow m (taken j) (k.slow (leg d (count a) j) i)

  crossing_fine : (x : ℤ) (j : ℕ) → j < count a → crossing (finer_way m w) x taken j ≡ crossing_from a u d x j
  crossing_fine x zero l = omega (arith, ints)
  crossing_fine x (suc j) l =
      let e = crossing_fine x j (omega arith) in
      let g = ap (λ n. n * m) (h.legs j (omega arith)).clear in
      omega (arith, ints, e, g)

  on_finer : (x : ℤ) (b : ℕ) → RunsOn a u d x b → Runs (finer_way m w) x taken b
  on_finer x b g = let n = h.count_signals in record {
    least = λ j l. low j (omega (arith, n, l));
    most = λ j l. high j (omega (arith, n, l));
    green = λ j l. let o : j < count a = omega (arith, n, l) in
        let s = g j o in
        let i = stop d (count a) j in
        let e = rw (red_start_finer a t m d i, red_ticks_finer a t m d i, cycle_finer a t m) at s in
        rw ((h.stops j o).start, (h.stops j o).red, crossing_fine x j o) e;
  }

  pub way_is : 2 ≤ count a → count a ≤ 24 → cycle a t < 2 ^ 98 → IsWay w
  way_is two few small = let n = h.count_signals in record {
    proper = record {
      some = omega (arith, n);
      inside = λ j l. (h.stops j (omega (arith, n, l))).inside;
      shorter = λ j l. (h.stops j (omega (arith, n, l))).shorter;
      ordered = λ j l.
          let o : j + 1 < count a = omega (arith, n, l) in
          let p = low j o in
          let r = high j o in
          let s : least_of links j * m ≤ most_of links j * m = omega arith in
          le_of_mul-le-mul_right s q;
    };
    few = omega (arith, n);
    cycle = small;
    start = λ j l. (h.stops j (omega (arith, n, l))).near;
  }

  pub none_on : NoneRunsFiner w → (x : ℤ) (b : ℕ) → ¬ RunsOn a u d x b
  none_on none x b g = none m q x taken b (on_finer x b g)

  pub widest_on : (band : ℕ) → IsWidestFiner w band → (x : ℤ) (b : ℕ) → RunsOn a u d x b → b ≤ m * band
  widest_on band e x b g = e m x taken b q (on_finer x b g)

-- whole limits hold on finer grids
pub outer_of : (a : Street) (t : BaseRecord) (d : Dir) (signals : List WaySignal) (links : List WayLink) → IsWayOf a t d signals links → AreWholeLimits a t d → IsOuterWayOf a t d signals links
outer_of a t d signals links h v = record {
  count_signals = h.count_signals;
  count_links = h.count_links;
  stops = h.stops;
  legs = λ j l.
      let i = leg d (count a) j in
      let p = h.legs j l in
      let whole = v i (leg_is d (count a) j l) in
      record {
        limits = record {
          fast = λ m n. fine_low (run_low a d i) t.grid whole.low (least_of links j) m n whole.low_is p.limits.fast;
          slow = λ m n. fine_high (run_high a d i) t.grid whole.high (most_of links j) m n whole.high_is p.limits.slow;
        };
        clear = p.clear;
      };
}

pub found_finer : (a : Street) (t : BaseRecord) (d : Dir) (signals : List WaySignal) (links : List WayLink) → IsOuterWayOf a t d signals links → (best : Option FreeBand)
    → MatchOption best (NoneRunsFiner (way (cycle a t) signals links)) (λ f. IsWidestFiner (way (cycle a t) signals links) f.band)
    → MatchOption best (NoneFreeFiner a t d) (λ f. IsWidestFree a t d f.band)
found_finer a t d signals links h None e = λ m q out ins x b k g. none_on a t d signals links h m q out ins k e x b g
found_finer a t d signals links h (Some f) e = λ m out ins x b q k g. widest_on a t d signals links h m q out ins k f.band e x b g
