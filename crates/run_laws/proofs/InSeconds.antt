-- The cycle and the offsets of a plan in whole seconds are the numbers that are told.
use Rattle.std.proofs.Common.{◌≡◌, Bool, true, false, refl, sym, length, ℕ, zero, suc, pos, ◌-ℤ◌, ◌*◌, ◌-◌}
use Rattle.std.proofs.Common.{◌<◌, ◌≤◌, List, map, slice_index, slice_index_or, ap, ap₂, ◌∙◌, arith, mod-lt, mul-pos, mul-le-mul_right}
use Rattle.std.proofs.lemmas.Int.{ints}
use Rattle.std.proofs.lemmas.List.{get_or-map}
use Rattle.rational_theory.specs.Rational.{over}
use Rattle.rational_theory.proofs.Arithmetic.{same_ratio, over_terms, whole_ratio}
use Rattle.progression.specs.Street.{Street, count, HasSignal}
use Rattle.progression.specs.Speeds.{number}
use Rattle.progression.specs.TimingRecord.{TimingRecord, base}
use Rattle.progression.specs.BaseRecord.{BaseRecord, cycle, common_red}
use Rattle.progression.specs.Good.{IsBase, Good}
use Rattle.progression.specs.Green.{since}
use Rattle.progression.proofs.Remainders.{mod_unique}
use Rattle.artery_model.specs.Valid.{IsValid}
use Rattle.timing_measures.specs.Measures.{cycle_seconds, offset}
use Rattle.second_plan.specs.Grid.{fineness}
use Rattle.second_plan.specs.Planned.{IsPlanned}
use Rattle.whole_offsets.specs.Scale.{limits_pace, whole_grid, whole_unit}
use Rattle.whole_offsets.specs.Steady.{IsSteady}
use Rattle.whole_offsets.proofs.Nearest.{nearest_begins}

-- n times d over d
over_times : (n d : ℕ) → 0 < d → over (pos (n * d)) d ≡ number n
over_times n d above =
    same_ratio (over (pos (n * d)) d) (number n) (n * d) 0 d n 0 1 (over_terms (pos (n * d)) (n * d) 0 d above (omega arith)) (whole_ratio (pos n)) (omega arith)

-- the grid, the cycle and the reds of a plan whose cycle has k seconds
record IsInSeconds (a : Street) (p : TimingRecord) (k scale : ℕ) (offsets : List ℕ) : Type 0 where
  grid : p.grid ≡ scale
  above : 0 < scale
  cycle : cycle a (base p) ≡ k * scale
  reds : p.reds ≡ map (λ offset. pos (offset * scale)) offsets
  long : length offsets ≡ count a
  below : (i : ℕ) → HasSignal a i → slice_index offsets (i - 1) < k
  first : slice_index offsets 0 ≡ 0

module _ (a : Street) (p : TimingRecord) (k scale : ℕ) (offsets : List ℕ) (valid : IsValid a) (h : IsInSeconds a p k scale offsets) where
  seconds_of : cycle_seconds a (base p) ≡ number k
  seconds_of = ap₂ (λ c g. over (pos c) g) h.cycle h.grid ∙ over_times k scale h.above

  red_is : (i : ℕ) → HasSignal a i → common_red (base p) i ≡ pos (slice_index offsets (i - 1) * scale)
  red_is i has =
      let long = h.long in
      ap (λ rs. slice_index_or rs (i - 1) (pos 0)) h.reds ∙ get_or-map (λ offset. pos (offset * scale)) offsets (i - 1) 0 (pos 0) (omega (arith, long, has.0, has.1))

  first_red : common_red (base p) 1 ≡ pos 0
  first_red = let few = valid.few in red_is 1 (omega arith, omega (arith, few)) ∙ ap (λ n. pos (n * scale)) h.first ∙ ap pos (omega arith)

  -- so many ticks after the first red
  ticks_after : (i : ℕ) → HasSignal a i → since (cycle a (base p)) (common_red (base p) 1) (common_red (base p) i) ≡ slice_index offsets (i - 1) * scale
  ticks_after i has =
      let n = slice_index offsets (i - 1) in
      let room : suc n * scale ≤ k * scale = mul-le-mul_right scale (h.below i has) in
      let above = h.above in
      ap (λ c. since c (common_red (base p) 1) (common_red (base p) i)) h.cycle
      ∙ ap₂ (λ x y. since (k * scale) x y) first_red (red_is i has)
      ∙ mod_unique (pos (n * scale) -ℤ pos 0) (pos 0) (k * scale) (n * scale) (omega (arith, ints)) (omega (arith, room, above))

  offset_of : (i : ℕ) → HasSignal a i → offset a (base p) i ≡ number (slice_index offsets (i - 1))
  offset_of i has = ap₂ (λ n g. over (pos n) g) (ticks_after i has) h.grid ∙ over_times (slice_index offsets (i - 1)) scale h.above

-- ---- a plan of `second_plan`
module _ (a : Street) (b : BaseRecord) (p : TimingRecord) (k : ℕ) (offsets : List ℕ) (valid : IsValid a) (given : IsBase a b) (good : Good a p) (h : IsPlanned a b k offsets p) where
  abbrev scale : ℕ
  scale = b.grid * fineness a

  same_unit : p.unit ≡ 2 * k * b.grid
  same_unit = ap (λ (s : TimingRecord). s.unit) h.timing

  scale_above : 0 < scale
  scale_above = let grid = given.formed.grid in let parts = valid.least_parts in mul-pos (omega (arith, grid)) (omega (arith, parts))

  some_seconds : (n : ℕ) → p.unit ≡ 2 * n * b.grid → 1 ≤ n
  some_seconds zero e = let unit = good.base.formed.unit in absurd (omega (arith, unit, e))
  some_seconds (suc n) e = omega arith

  -- each offset is below the cycle
  below : (i : ℕ) → HasSignal a i → slice_index offsets (i - 1) < k
  below i has = let o = h.whole.rounded.each i has in let l = mod-lt o.rounded (some_seconds k same_unit) in omega (arith, l, o.within)

  in_seconds : IsInSeconds a p k scale offsets
  in_seconds = record {
    grid = ap (λ (s : TimingRecord). s.grid) h.timing;
    above = scale_above;
    cycle = ap (λ u. a.head.parts * u) same_unit ∙ omega arith;
    reds = ap (λ (s : TimingRecord). s.reds) h.timing;
    long = h.whole.rounded.each_has;
    below = below;
    first = nearest_begins a b k offsets valid given h.whole.rounded;
  }

  pub cycle_told : cycle_seconds a (base p) ≡ number k
  cycle_told = seconds_of a p k scale offsets valid in_seconds

  pub offset_told : (i : ℕ) → HasSignal a i → offset a (base p) i ≡ number (slice_index offsets (i - 1))
  offset_told = offset_of a p k scale offsets valid in_seconds

-- ---- a plan of `whole_offsets`
module _ (a : Street) (b : BaseRecord) (p : TimingRecord) (k : ℕ) (offsets : List ℕ) (valid : IsValid a) (good : Good a p) (h : IsSteady a b k offsets p) where
  -- each part of the cycle has as many ticks for each of its seconds as each second for each part
  pub unit_by_grid : (tied : Bool) → limits_pace a ≡ tied → a.head.parts * whole_unit a b k ≡ k * whole_grid a b
  unit_by_grid true e = rw e (omega arith)
  unit_by_grid false e = rw e (omega arith)

  grid_is : p.grid ≡ whole_grid a b
  grid_is = ap (λ (s : BaseRecord). s.grid) h.plan.on

  whole_in_seconds : IsInSeconds a p k p.grid offsets
  whole_in_seconds = record {
    grid = refl;
    above = let grid = good.base.formed.grid in omega (arith, grid);
    cycle = ap (λ (s : BaseRecord). a.head.parts * s.unit) h.plan.on ∙ unit_by_grid (limits_pace a) refl ∙ ap (λ g. k * g) (sym grid_is);
    reds = ap (λ (s : BaseRecord). s.reds) h.plan.on ∙ ap (λ g. map (λ offset. pos (offset * g)) offsets) (sym grid_is);
    long = h.within.each_has;
    below = λ i has. let long = h.within.each_has in h.within.below (i - 1) 0 (omega (arith, long, has.0, has.1));
    first = h.within.first;
  }

  pub whole_cycle_told : cycle_seconds a (base p) ≡ number k
  whole_cycle_told = seconds_of a p k p.grid offsets valid whole_in_seconds

  pub whole_offset_told : (i : ℕ) → HasSignal a i → offset a (base p) i ≡ number (slice_index offsets (i - 1))
  whole_offset_told = offset_of a p k p.grid offsets valid whole_in_seconds
