-- The grid of a plan with free runs has a run for each link, and its runs are numbers that a timing can hold.
use Rattle.std.proofs.Common.{◌≡◌, ℕ, ℤ, pos, ◌+◌, ◌-◌, ◌*◌, ◌/◌, ◌*ℤ◌, ◌^◌, ◌<◌, ◌≤◌, ◌≤ℤ◌}
use Rattle.std.proofs.Common.{List, length, get_or, refl, sym, ◌∙◌, ap, subst, arith, true, false, unsigned_abs, mul-pos, le-div_iff_mul-le}
use Rattle.std.specs.Prelude.{Bool, None, nat_le, if◌then◌else◌, All, slice_index}
use Rattle.std.proofs.lemmas.Bool.Decides.{nat_tests}
use Rattle.std.proofs.lemmas.Int.{ints}
use Rattle.std.proofs.Math.Nat.{mul-le-mul_left}
use Rattle.std.proofs.lemmas.List.{get_or_default}
use Rattle.rational_theory.specs.Rational.{ℚ, ◌*ℚ◌, ◌≤ℚ◌}
use Rattle.rational_theory.proofs.Order.{≤ℚ_trans, ≤ℚ-*ℚ, whole-≤ℤ, whole_not_zero}
use Rattle.rational_theory.proofs.Shares.{≤ℚ_cancel}
use Rattle.rational_theory.proofs.Multiples.{IsMultiple}
use Rattle.progression.specs.Street.{Street, count, HasLink, no_link, distance, speed}
use Rattle.progression.specs.Speeds.{number, seconds, run_low, run_high}
use Rattle.progression.specs.BaseRecord.{BaseRecord, run}
use Rattle.progression.specs.Good.{IsBase}
use Rattle.progression.specs.declared.parts.Units.{Units}
use Rattle.progression.specs.declared.parts.Units.TheVariants.{Metric, English}
use Rattle.progression.specs.declared.parts.Dir.{Dir}
use Rattle.progression.specs.declared.parts.Dir.TheVariants.{Outbound, Inbound}
use Rattle.artery_model.specs.Valid.{IsValid, IsQuantity}
use Rattle.artery_model.proofs.Quotients.{over_times, over_positive, above_zero}
use Rattle.time_space.proofs.GridLimits.{least_is, most_is}
use Rattle.band_measure.specs.Cut.{whole_part}
use Rattle.band_measure.proofs.Parts.{times_part}
use Rattle.free_runs.specs.Street.{AreLimits}
use Rattle.free_runs.specs.Free.{with_runs, TakesRuns}
use Rattle.whole_offsets.specs.Scale.{large_run, has_whole_run, multiple, least_multiple}
use Rattle.whole_offsets.specs.Lines.{HasRuns, AreKept, AreLeast, AreRunsOf, place_of, runs_of}
use Rattle.free_band.specs.Cells.{run_of}
use Rattle.free_band.specs.declared.way.FreeBand.{FreeBand}
use Rattle.progression.specs.Lines.{leg}
use Rattle.whole_offsets.proofs.Multiples.{multiple_is, growth_above}
use Rattle.whole_offsets.proofs.Sizes.{AreSmall, runs_small}

-- ---- runs are above 0
seconds_above : (units : Units) (d : ℕ) (v : ℚ) → 1 ≤ d → IsQuantity (pos 1) (pos 300) v → pos 1 ≤ℤ (seconds units d v).num
seconds_above Metric d v h q =
    let p = above_zero v q in
    subst (λ (x : ℚ). pos 1 ≤ℤ x.num) (over_times (18 * d) 5 (unsigned_abs v.num) v p.0 p.1 (omega arith))
    (over_positive (18 * d * v.den) (5 * unsigned_abs v.num) (mul-pos (let l : 0 < 18 * d = omega arith in l) v.positive) (let s = p.1 in omega (arith, s)))
seconds_above English d v h q =
    let p = above_zero v q in
    subst (λ (x : ℚ). pos 1 ≤ℤ x.num) (over_times (15 * d) 22 (unsigned_abs v.num) v p.0 p.1 (omega arith))
    (over_positive (15 * d * v.den) (22 * unsigned_abs v.num) (mul-pos (let l : 0 < 15 * d = omega arith in l) v.positive) (let s = p.1 in omega (arith, s)))

module _ (a : Street) (valid : IsValid a) (i : ℕ) (has : HasLink a i) where
  inside : i - 1 < length a.links
  inside = let n = valid.one_fewer in let p = has.0 in let q = has.1 in omega arith

  pub low_above : (d : Dir) → pos 1 ≤ℤ (run_low a d i).num
  low_above Outbound = let l = valid.each_link (i - 1) no_link inside in seconds_above a.head.units (distance a Outbound i) (speed a Outbound i).most l.least_out l.speed_out.most
  low_above Inbound = let l = valid.each_link (i - 1) no_link inside in seconds_above a.head.units (distance a Inbound i) (speed a Inbound i).most l.least_in l.speed_in.most

  pub high_above : (d : Dir) → pos 1 ≤ℤ (run_high a d i).num
  high_above Outbound = let l = valid.each_link (i - 1) no_link inside in seconds_above a.head.units (distance a Outbound i) (speed a Outbound i).least l.least_out l.speed_out.least
  high_above Inbound = let l = valid.each_link (i - 1) no_link inside in seconds_above a.head.units (distance a Inbound i) (speed a Inbound i).least l.least_in l.speed_in.least

-- where a timing keeps the limits of speed the least run isn't above the greatest
pub runs_ordered : (a : Street) (t : BaseRecord) → IsBase a t → (d : Dir) (i : ℕ) → HasLink a i → run_low a d i ≤ℚ run_high a d i
runs_ordered a t base d i has =
    let g = base.formed.grid in
    ≤ℚ_cancel (run_low a d i) (run_high a d i) (number t.grid) (whole-≤ℤ (pos 0) (pos t.grid) (omega (arith, ints)))
    (whole_not_zero (pos t.grid) (λ e. absurd (omega (arith, ints, e, g))))
    (≤ℚ_trans _ _ _ (base.fast d i has) (base.slow d i has))

-- ---- limits as whole numbers
natural : (z : ℤ) → pos 1 ≤ℤ z → pos (unsigned_abs z) ≡ z
natural z h = omega (arith, ints)

-- what is at most a limit in ticks is at most its whole part
module _ (x : ℚ) (above : pos 1 ≤ℤ x.num) (g : ℕ) where
  pub part_is : whole_part (x *ℚ number g) ≡ g * unsigned_abs x.num / x.den
  part_is = times_part x (unsigned_abs x.num) g (natural x.num above)

  pub part_most : number (whole_part (x *ℚ number g)) ≤ℚ (x *ℚ number g)
  part_most =
      let e = part_is in
      let n = natural x.num above in
      let p = x.positive in
      let l : x.den * (g * unsigned_abs x.num / x.den) ≤ g * unsigned_abs x.num = omega arith in
      (most_is x g _).0 (rw (e, ← n) (omega (arith, ints, l)))

  pub part_greatest : (n : ℕ) → number n ≤ℚ (x *ℚ number g) → n ≤ whole_part (x *ℚ number g)
  part_greatest n h =
      let e = part_is in
      let f = natural x.num above in
      let k = rw (← f) at ((most_is x g n).1 h) in
      let l : n * x.den ≤ g * unsigned_abs x.num = omega (arith, ints, k) in
      let m : n ≤ g * unsigned_abs x.num / x.den = (le-div_iff_mul-le x.positive).1 l in
      rw e m

-- ---- a run within the limits on the grid
cross_out : (z : ℤ) (m d n g : ℕ) → pos m ≡ z → (pos d *ℤ pos n) ≤ℤ (z *ℤ pos g) → d * n ≤ m * g
cross_out z m d n g e h = let k = rw (← e) at h in omega (arith, ints, k)

cross_in : (z : ℤ) (m d n g : ℕ) → pos m ≡ z → d * n ≤ m * g → (pos d *ℤ pos n) ≤ℤ (z *ℤ pos g)
cross_in z m d n g e h = rw (← e) (omega (arith, ints, h))

cross_up : (z : ℤ) (m d n g : ℕ) → pos m ≡ z → m * g ≤ d * n → (z *ℤ pos g) ≤ℤ (pos d *ℤ pos n)
cross_up z m d n g e h = rw (← e) (omega (arith, ints, h))

record HasRun (low high : ℚ) (g : ℕ) : Type 0 where
  pub run : ℕ
  pub fast : (low *ℚ number g) ≤ℚ number run
  pub slow : number run ≤ℚ (high *ℚ number g)

module _ (low high : ℚ) (above_low : pos 1 ≤ℤ low.num) (above_high : pos 1 ≤ℤ high.num) where
  -- a whole run on a grid is one on each finer
  of_whole : (g by : ℕ) → unsigned_abs low.num * g ≤ whole_part (high *ℚ number g) * low.den → HasRun low high (by * g)
  of_whole g by l =
      let n = whole_part (high *ℚ number g) in
      let e = natural low.num above_low in
      let f = natural high.num above_high in
      let first : by * (unsigned_abs low.num * g) ≤ by * (n * low.den) = mul-le-mul_left by l in
      let below = cross_out high.num (unsigned_abs high.num) high.den n g f ((most_is high g n).1 (part_most high above_high g)) in
      let second : by * (high.den * n) ≤ by * (unsigned_abs high.num * g) = mul-le-mul_left by below in
      record {
        run = by * n;
        fast = (least_is low (by * g) (by * n)).0 (cross_up low.num (unsigned_abs low.num) low.den (by * n) (by * g) e (omega (arith, first)));
        slow = (most_is high (by * g) (by * n)).0 (cross_in high.num (unsigned_abs high.num) high.den (by * n) (by * g) f (omega (arith, second)));
      }

  -- the least run is whole where the grid is a multiple of its denominator
  of_den : (by : ℕ) → low ≤ℚ high → HasRun low high (by * low.den)
  of_den by o =
      let n = by * unsigned_abs low.num in
      let e = natural low.num above_low in
      record {
        run = n;
        fast = (least_is low (by * low.den) n).0 (cross_up low.num (unsigned_abs low.num) low.den n (by * low.den) e (omega arith));
        slow = ≤ℚ_trans _ _ _ ((most_is low (by * low.den) n).0 (cross_in low.num (unsigned_abs low.num) low.den n (by * low.den) e (omega arith)))
            (≤ℚ-*ℚ low high (number (by * low.den)) o (whole-≤ℤ (pos 0) (pos (by * low.den)) (omega (arith, ints))));
      }

module _ (a : Street) (t : BaseRecord) (valid : IsValid a) (base : IsBase a t) (k : ℕ) (small : AreSmall a (a.head.parts * multiple a) k) where
  abbrev grid : ℕ
  grid = a.head.parts * multiple a

  run_by : (d : Dir) (i : ℕ) → HasLink a i → (b : Bool) → has_whole_run a (a.head.parts * least_multiple) d i ≡ b → IsMultiple (multiple a) (if b then 1 else (run_low a d i).den)
      → IsMultiple (multiple a) least_multiple
      → HasRun (run_low a d i) (run_high a d i) grid
  run_by d i has true e g l =
      let n = ap (λ m. a.head.parts * m) l.is in
      let s : l.times * (a.head.parts * least_multiple) ≡ grid = omega (arith, n) in
      subst (λ x. HasRun (run_low a d i) (run_high a d i) x) s
      (of_whole (run_low a d i) (run_high a d i) (low_above a valid i has d) (high_above a valid i has d) (a.head.parts * least_multiple) l.times (is_below _ _ e))
    where
      is_below : (m n : ℕ) → nat_le m n ≡ true → m ≤ n
      is_below m n h = grind (arith, nat_tests)
  run_by d i has false e g l =
      let n = ap (λ m. a.head.parts * m) g.is in
      let s : a.head.parts * g.times * (run_low a d i).den ≡ grid = omega (arith, n) in
      subst (λ x. HasRun (run_low a d i) (run_high a d i) x) s
      (of_den (run_low a d i) (run_high a d i) (low_above a valid i has d) (high_above a valid i has d) (a.head.parts * g.times) (runs_ordered a t base d i has))

  has_run : (d : Dir) (i : ℕ) → HasLink a i → HasRun (run_low a d i) (run_high a d i) grid
  has_run d i has =
      let common = multiple_is a (growth_above a) small.grid_small in
      let p = has.0 in let q = has.1 in
      run_by d i has (has_whole_run a (a.head.parts * least_multiple) d i) refl (common.of_each d i p (omega arith)) common.of_least

  pub has_runs : HasRuns a grid
  has_runs = record {
    ordered = λ d i least most has l.
        let r = has_run d i has in
        let p = (l.fast r.run).0 r.fast in
        let q = (l.slow r.run).0 r.slow in omega arith;
  }

-- ---- runs within the limits
runs_at : (u : BaseRecord) (d : Dir) (i : ℕ) → run u d i ≡ slice_index (runs_of u d) (i - 1)
runs_at u Outbound i = refl
runs_at u Inbound i = refl

own_runs : (d : Dir) (f : BaseRecord) (runs : List ℕ) → runs_of (with_runs runs runs f) d ≡ runs
own_runs Outbound f runs = refl
own_runs Inbound f runs = refl

place_back : (d : Dir) (n j : ℕ) → j + 1 < n → place_of d n (leg d n j - 1) ≡ j
place_back Outbound n j h = omega arith
place_back Inbound n j h = omega arith

index_below : (d : Dir) (n j : ℕ) → j + 1 < n → leg d n j - 1 < n - 1
index_below Outbound n j h = omega arith
index_below Inbound n j h = omega arith

module _ (a : Street) (f : BaseRecord) (d : Dir) (runs : List ℕ) where
  -- the least runs keep the limits
  pub least_kept : HasRuns a f.grid → AreLeast a f.grid d runs (count a - 1) → AreKept a f d runs
  least_kept h l out back e = record {
    fast = λ i has.
        let m = at i has in
        subst (λ n. (run_low a d i *ℚ number f.grid) ≤ℚ number n) (sym (taken i)) ((m.1.fast (slice_index runs (i - 1))).1 (omega arith));
    slow = λ i has.
        let m = at i has in
        subst (λ n. number n ≤ℚ (run_high a d i *ℚ number f.grid)) (sym (taken i)) ((m.1.slow (slice_index runs (i - 1))).1 (h.ordered d i (slice_index runs (i - 1)) m.0 has m.1));
  }
    where
      taken : (i : ℕ) → run (with_runs out back f) d i ≡ slice_index runs (i - 1)
      taken i = runs_at (with_runs out back f) d i ∙ ap (λ xs. slice_index xs (i - 1)) e

      at : (i : ℕ) → HasLink a i → (most : ℕ) × AreLimits a d f.grid i (slice_index runs (i - 1)) most
      at i has =
          let p = has.0 in
          let q = has.1 in
          let s : i - 1 + 1 ≡ i = omega arith in
          subst (λ k. (most : ℕ) × AreLimits a d f.grid k (slice_index runs (i - 1)) most) s (l.each (i - 1) (omega arith))

  -- those of a band that was found are its
  pub takes : (free : FreeBand) → AreRunsOf a d free runs (count a - 1) → (out back : List ℕ) → runs_of (with_runs out back f) d ≡ runs → TakesRuns a (with_runs out back f) d free
  takes free r out back e j h =
      runs_at (with_runs out back f) d (leg d (count a) j)
      ∙ ap (λ xs. slice_index xs (leg d (count a) j - 1)) e
      ∙ r.each (leg d (count a) j - 1) (index_below d (count a) j h)
      ∙ ap (run_of free) (place_back d (count a) j h)

  -- and are numbers that a timing can hold
  pub kept_small : IsValid a → large_run a d f.grid (count a - 1) ≡ None → length runs + 1 ≡ count a → AreKept a f d runs → All (λ n. n < 2 ^ 80) runs
  kept_small valid none long kept = λ i x l.
      let k = (kept runs runs (own_runs d f runs)).slow (i + 1) (let p : 1 ≤ i + 1 = omega arith in p, let q : i + 1 < count a = omega arith in q) in
      let has : HasLink a (i + 1) = (omega arith, omega arith) in
      let m = part_greatest (run_high a d (i + 1)) (high_above a valid (i + 1) has d) f.grid (run (with_runs runs runs f) d (i + 1)) k in
      let s = runs_small a d f.grid (count a - 1) none (i + 1) (omega arith) (omega arith) in
      let t = runs_at (with_runs runs runs f) d (i + 1) ∙ ap (λ xs. slice_index xs (i + 1 - 1)) (own_runs d f runs) in
      let at : i + 1 - 1 ≡ i = omega arith in
      let same : get_or runs i x ≡ get_or runs i 0 = get_or_default runs i x 0 l in
      let v : slice_index runs (i + 1 - 1) ≡ slice_index runs i = ap (slice_index runs) at in
      omega (arith, m, s, t, same, v)
