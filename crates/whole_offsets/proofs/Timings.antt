-- The bases that plans are made of are numbers that a timing holds, and with what was found on them they are plans.
use Rattle.std.proofs.Common.{◌≡◌, ℕ, pos, ◌+◌, ◌-◌, ◌*◌, ◌^◌, ◌<◌, ◌≤◌, List, map, refl, sym, ◌∙◌, ap, ap₂, subst, arith, true, false, mul-pos}
use Rattle.std.specs.Prelude.{All, IsTrue, Option, None, Some, IfSome, if◌then◌else◌}
use Rattle.std.proofs.lemmas.List.{length-map}
use Rattle.progression.specs.Street.{Street, count}
use Rattle.progression.specs.BaseRecord.{BaseRecord}
use Rattle.progression.specs.TimingRecord.{TimingRecord, banded}
use Rattle.progression.specs.Good.{IsBase}
use Rattle.progression.specs.declared.parts.Dir.{Dir}
use Rattle.progression.specs.declared.parts.Dir.TheVariants.{Outbound, Inbound}
use Rattle.artery_model.specs.Valid.{IsValid}
use Rattle.time_space.specs.Timing.{AreOfBase, base_of}
use Rattle.band_measure.specs.Pairs.{FinerPairs}
use Rattle.band_measure.specs.Widest.{IsWidestBand}
use Rattle.band_measure.specs.Cut.{IsCut}
use Rattle.band_measure.specs.declared.bands.Bands.{Bands}
use Rattle.band_measure.specs.declared.pair.Widest.{Widest}
use Rattle.free_runs.specs.Free.{with_runs, KeepsSpeeds}
use Rattle.second_plan.specs.Seconds.{IsWholeCycle}
use Rattle.second_plan.specs.Grid.{fineness, on_grid, in_seconds, too_fine}
use Rattle.second_plan.proofs.Fine.{reds_small, map-map_pos}
use Rattle.second_plan.proofs.Rules.{unit_least, plan_base}
use Rattle.whole_offsets.specs.Scale.{limits_pace, whole_grid, whole_unit, multiple, free_large, large_run, IsScale}
use Rattle.whole_offsets.specs.Offsets.{AreWithin}
use Rattle.whole_offsets.specs.Lines.{HasRuns, IsDirectionBand}
use Rattle.whole_offsets.specs.Measured.{on_offsets, IsMeasuredFor, or_nothing, lacking}
use Rattle.whole_offsets.specs.declared.lines.DirectionBand.{DirectionBand}
use Rattle.whole_offsets.proofs.Sizes.{IsHeld, pace_held, AreSmall, small_of}
use Rattle.whole_offsets.proofs.Runs.{has_runs}
use Rattle.whole_offsets.proofs.Widths.{IsFound, free_found, pace_found}

-- ---- a scale by whether pace is limited
module _ (a : Street) (t : BaseRecord) (k grid unit : ℕ) (s : IsScale a t k grid unit) where
  grid_free : limits_pace a ≡ false → grid ≡ a.head.parts * multiple a
  grid_free e = s.grid_is ∙ ap (λ b. if b then t.grid * fineness a else a.head.parts * multiple a) e

  fits_free : limits_pace a ≡ false → free_large a (a.head.parts * multiple a) k ≡ None
  fits_free e = sym (ap (λ b. if b then too_fine a t k else free_large a (a.head.parts * multiple a) k) e) ∙ s.fits

  free_small : limits_pace a ≡ false → AreSmall a (a.head.parts * multiple a) k
  free_small e = small_of a (a.head.parts * multiple a) k (fits_free e)

  pub free_runs_small : limits_pace a ≡ false → (d : Dir) → large_run a d grid (count a - 1) ≡ None
  free_runs_small e d = subst (λ g. large_run a d g (count a - 1) ≡ None) (sym (grid_free e))
      (elim d as (λ x. large_run a x (a.head.parts * multiple a) (count a - 1) ≡ None) [ Outbound ↦ (free_small e).runs_out | Inbound ↦ (free_small e).runs_in ])

  pub scale_runs : IsValid a → IsBase a t → limits_pace a ≡ false → HasRuns a grid
  scale_runs valid base e = subst (HasRuns a) (sym (grid_free e)) (has_runs a t valid base k (free_small e))

-- ---- the signals' times
module _ (a : Street) (t : BaseRecord) (k : ℕ) (offsets : List ℕ) (grid unit : ℕ) (held : IsHeld a k grid unit) (base : IsBase a t) (valid : IsValid a) (within : AreWithin a k offsets)
    (each : All (λ p. (1 ≤ p) × (p ≤ 4)) t.patterns) (out_small : All (λ n. n < 2 ^ 80) t.run_out) (in_small : All (λ n. n < 2 ^ 80) t.run_in) where
  listed : AreOfBase grid unit t.patterns (map (λ offset. offset * grid) offsets) t.run_out t.run_in
  listed = let shape = base.shape in let long = within.each_has in let few = valid.few in let many = valid.many in record {
    grid_least = held.grid_least;
    grid_most = held.grid_most;
    unit_least = held.unit_least;
    unit_most = held.unit_most;
    few = omega (arith, shape, few);
    many = omega (arith, shape, many);
    reds_count = length-map offsets (λ offset. offset * grid) ∙ long ∙ sym shape;
    run_out_count = base.formed.run_out;
    run_in_count = base.formed.run_in;
    patterns_each = each;
    reds_each = reds_small offsets k grid (a.head.parts * unit) within.below (sym held.cycle_is) held.cycle_most;
    run_out_each = out_small;
    run_in_each = in_small;
  }

  pub listed_as : (patterns reds run_out run_in : List ℕ) → patterns ≡ t.patterns → reds ≡ map (λ offset. offset * grid) offsets → run_out ≡ t.run_out → run_in ≡ t.run_in
      → AreOfBase grid unit patterns reds run_out run_in
  listed_as patterns reds run_out run_in e f g h = rw (e, f, g, h) listed

pub on_offsets_is : (t : BaseRecord) (offsets : List ℕ) (grid unit : ℕ) (patterns reds run_out run_in : List ℕ) → patterns ≡ t.patterns → reds ≡ map (λ offset. offset * grid) offsets
    → run_out ≡ t.run_out → run_in ≡ t.run_in
    → base_of grid unit patterns reds run_out run_in ≡ on_offsets grid unit offsets t
on_offsets_is t offsets grid unit patterns reds run_out run_in e f g h = λ i. record {
  grid = grid;
  unit = unit;
  patterns = e i;
  reds = (ap (map pos) f ∙ map-map_pos offsets grid) i;
  run_out = g i;
  run_in = h i;
}

-- ---- a plan with free runs
module _ (a : Street) (valid : IsValid a) (t : BaseRecord) (k : ℕ) (offsets : List ℕ) (grid unit : ℕ) (s : IsScale a t k grid unit) (free : limits_pace a ≡ false)
    (out back : DirectionBand) (bands : Bands) (o : IsDirectionBand a (on_offsets grid unit offsets t) Outbound out) (b : IsDirectionBand a (on_offsets grid unit offsets t) Inbound back)
    (cut : IsCut a (record { outbound = out.pair.band; inbound = back.pair.band }) bands) (less_out : bands.outbound ≤ out.pair.band) (less_in : bands.inbound ≤ back.pair.band) where
  abbrev f : BaseRecord
  f = on_offsets grid unit offsets t

  abbrev u : BaseRecord
  u = with_runs out.runs.items back.runs.items f

  abbrev q : TimingRecord
  q = banded (pos out.pair.first) bands.outbound (pos back.pair.first) bands.inbound u

  kept : (d : Dir) → KeepsSpeeds a u d
  kept Outbound = o.kept out.runs.items back.runs.items refl
  kept Inbound = b.kept out.runs.items back.runs.items refl

  found_out : IsFound a q Outbound out.pair.band out.lineless
  found_out = free_found a f q Outbound refl (kept Outbound) out.runs.items out.pair.first out.pair.band out.lineless o.line
      (λ h. h.green out.runs.items back.runs.items refl) less_out

  found_in : IsFound a q Inbound back.pair.band back.lineless
  found_in = free_found a f q Inbound refl (kept Inbound) back.runs.items back.pair.first back.pair.band back.lineless b.line
      (λ h. h.green out.runs.items back.runs.items refl) less_in

  no_pace : IsTrue (limits_pace a) → u ≡ in_seconds a t k offsets
  no_pace l = absurd (cc)

  measured : (n : ℕ) → n ≡ out.lineless + back.lineless → IsMeasuredFor a t k offsets q n
  measured n e = record {
    plan = record {
      on = ap₂ (λ g v. on_grid g v offsets out.runs.items back.runs.items t) s.grid_is s.unit_is;
      speeds = kept;
      pace = no_pace;
      wide = record { outbound = out.pair.band; inbound = back.pair.band };
      outbound = found_out.is_width;
      inbound = found_in.is_width;
      cut = cut;
    };
    lineless = record { out = out.lineless; back = back.lineless; outbound = found_out.is_lack; inbound = found_in.is_lack; both = e };
  }

  pub free_measured : (p : TimingRecord) (n : ℕ) → p ≡ q → n ≡ out.lineless + back.lineless → IsMeasuredFor a t k offsets p n
  free_measured p n is e = subst (λ r. IsMeasuredFor a t k offsets r n) (sym is) (measured n e)

-- ---- a plan with the runs of the base
pub below_of : (found : Option Widest) (c : ℕ) → 0 < c → IfSome found (λ w. w.first < c) → IfSome found (λ w. w.band < c) → ((or_nothing found).first < c) × ((or_nothing found).band < c)
below_of None c some h g = (some, some)
below_of (Some w) c some h g = (h, g)

-- so they are numbers that a timing can hold
pub pace_below : (a : Street) (t : BaseRecord) → IsValid a → IsBase a t → (k : ℕ) → 1 ≤ k → too_fine a t k ≡ None → (found : Option Widest) (c : ℕ) → c ≡ a.head.parts * (2 * k * t.grid)
    → IfSome found (λ w. w.first < c) → IfSome found (λ w. w.band < c) → (w : Widest) → w ≡ or_nothing found → (w.first < 2 ^ 80) × (w.band < 2 ^ 80)
pace_below a t valid base k some fine found c e h g w is =
    let held = pace_held a t valid base k some fine in
    let most = held.cycle_most in
    let parts = valid.least_parts in
    let unit = held.unit_least in
    let above : 0 < a.head.parts * (2 * k * t.grid) = mul-pos (let p : 0 < a.head.parts = omega arith in p) (let u : 0 < 2 * k * t.grid = omega arith in u) in
    let b = below_of found c (omega arith) h g in
    let first_is : w.first ≡ (or_nothing found).first = ap (λ (x : Widest). x.first) is in
    let band_is : w.band ≡ (or_nothing found).band = ap (λ (x : Widest). x.band) is in
    let p = b.0 in
    let q = b.1 in
    (omega arith, omega arith)

module _ (a : Street) (valid : IsValid a) (finer_pairs : FinerPairs) (t : BaseRecord) (base : IsBase a t) (k : ℕ) (offsets : List ℕ) (whole : IsWholeCycle a k) (some : 1 ≤ k)
    (within : AreWithin a k offsets) (limited : limits_pace a ≡ true) (found_out found_in : Option Widest) (bands : Bands)
    (o : IsWidestBand a (in_seconds a t k offsets) Outbound found_out) (b : IsWidestBand a (in_seconds a t k offsets) Inbound found_in)
    (cut : IsCut a (record { outbound = (or_nothing found_out).band; inbound = (or_nothing found_in).band }) bands)
    (less_out : bands.outbound ≤ (or_nothing found_out).band) (less_in : bands.inbound ≤ (or_nothing found_in).band) where
  abbrev g : BaseRecord
  g = in_seconds a t k offsets

  abbrev r : TimingRecord
  r = banded (pos (or_nothing found_out).first) bands.outbound (pos (or_nothing found_in).first) bands.inbound g

  speeds : (d : Dir) → KeepsSpeeds a g d
  speeds d = let rules = plan_base a t valid base k offsets whole some within.each_has in record { fast = rules.fast d; slow = rules.slow d }

  two : 2 ≤ g.unit
  two = unit_least a t valid base k offsets whole some within.each_has

  pace_out : IsFound a r Outbound (or_nothing found_out).band (lacking found_out)
  pace_out = pace_found a r Outbound valid two finer_pairs limited found_out o refl less_out

  pace_in : IsFound a r Inbound (or_nothing found_in).band (lacking found_in)
  pace_in = pace_found a r Inbound valid two finer_pairs limited found_in b refl less_in

  grid_is : t.grid * fineness a ≡ whole_grid a t
  grid_is = sym (ap (λ b. if b then t.grid * fineness a else a.head.parts * multiple a) limited)

  unit_is : 2 * k * t.grid ≡ whole_unit a t k
  unit_is = sym (ap (λ b. if b then 2 * k * t.grid else k * multiple a) limited)

  pace_measured_at : (n : ℕ) → n ≡ lacking found_out + lacking found_in → IsMeasuredFor a t k offsets r n
  pace_measured_at n e = record {
    plan = record {
      on = ap₂ (λ n u. on_grid n u offsets g.run_out g.run_in t) grid_is unit_is;
      speeds = speeds;
      pace = λ l. refl;
      wide = record { outbound = (or_nothing found_out).band; inbound = (or_nothing found_in).band };
      outbound = pace_out.is_width;
      inbound = pace_in.is_width;
      cut = cut;
    };
    lineless = record { out = lacking found_out; back = lacking found_in; outbound = pace_out.is_lack; inbound = pace_in.is_lack; both = e };
  }

  pub pace_measured : (p : TimingRecord) (n : ℕ) → p ≡ r → n ≡ lacking found_out + lacking found_in → IsMeasuredFor a t k offsets p n
  pace_measured p n is e = subst (λ x. IsMeasuredFor a t k offsets x n) (sym is) (pace_measured_at n e)
