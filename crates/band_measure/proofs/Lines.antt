-- The gaps of a plan: a pair runs exactly where it lies in a gap of each signal, here and on a finer grid.
use Rattle.std.proofs.Common.{◌≡◌, ℕ, zero, suc, ℤ, pos, ◌+ℤ◌, ◌-ℤ◌, ◌*ℤ◌, ◌+◌, ◌-◌, ◌*◌, ◌<◌, ◌≤◌, refl, ap, arith, add-one}
use Rattle.std.specs.Prelude.{◌↔◌}
use Rattle.std.proofs.lemmas.Int.{ints}
use Rattle.progression.specs.Street.{Street, count, red_parts}
use Rattle.progression.specs.BaseRecord.{BaseRecord, cycle}
use Rattle.progression.specs.Green.{red_start, red_ticks}
use Rattle.progression.specs.Lines.{stop, advance, crossing_from, IsGreenFrom, RunsOn}
use Rattle.progression.specs.declared.parts.Dir.{Dir}
use Rattle.progression.specs.declared.parts.Dir.TheVariants.{Outbound, Inbound}
use Rattle.artery_model.specs.Valid.{IsValid}
use Rattle.time_space.specs.Finer.{finer_base}
use Rattle.time_space.proofs.Scale.{minus_scale}
use Rattle.time_space.proofs.FinerGrids.{plus_scale, cycle_finer, red_start_finer, red_ticks_finer, advance_finer, mul-le, red_bounds}
use Rattle.band_measure.specs.Edges.{way}
use Rattle.band_measure.proofs.Gaps.{Gap, gap_from_green, green_from_gap, gap_later}

pub way_next : (a : Street) (t : BaseRecord) (d : Dir) (j : ℕ) → way a t d (j + 1) ≡ way a t d j +ℤ advance a t d j
way_next a t d j = ap (way a t d) (add-one j)

-- a line's crossing is its first and the way
pub crossing_is : (a : Street) (t : BaseRecord) (d : Dir) (x : ℤ) (j : ℕ) → crossing_from a t d x j ≡ x +ℤ way a t d j
crossing_is a t d x zero = omega (arith, ints)
crossing_is a t d x (suc j) = let e = crossing_is a t d x j in omega (arith, ints, e)

-- the start of the j-th signal's red, seen from the first crossing, and the red's length
abbrev pub seen : Street → BaseRecord → Dir → ℕ → ℤ
seen a t d j = red_start a t d (stop d (count a) j) -ℤ way a t d j

abbrev pub long : Street → BaseRecord → Dir → ℕ → ℕ
long a t d j = red_ticks a t d (stop d (count a) j)

-- the same on a finer grid
module _ (a : Street) (t : BaseRecord) (m : ℕ) (d : Dir) where
  way_finer : (j : ℕ) → way a (finer_base m t) d j ≡ way a t d j *ℤ pos m
  way_finer zero = omega (arith, ints)
  way_finer (suc j) = rw (way_finer j, advance_finer a t m d j) (plus_scale (way a t d j) (advance a t d j) m)

  seen_finer : (j : ℕ) → seen a (finer_base m t) d j ≡ seen a t d j *ℤ pos m
  seen_finer j =
      let start = red_start_finer a t m d (stop d (count a) j) in
      let there = way_finer j in
      let both = minus_scale (red_start a t d (stop d (count a) j)) (way a t d j) m in
      omega (arith, ints, start, there, both)

  -- a finer grid's gaps are m times as large
  gap_finer : (j : ℕ) (x : ℤ) (b : ℕ)
      → Gap (cycle a (finer_base m t)) (seen a (finer_base m t) d j) (long a (finer_base m t) d j) x b ↔ Gap (cycle a t * m) (seen a t d j *ℤ pos m) (long a t d j * m) x b
  gap_finer j x b = let reds = red_ticks_finer a t m d (stop d (count a) j) in (
    (λ g. rw (cycle_finer a t m, reds, seen_finer j) at g),
    (λ g. rw (cycle_finer a t m, reds, seen_finer j) g),
  )

-- ---- red and green of each signal
mul-lt : {a b c : ℕ} → a < b → 0 < c → a * c < b * c
mul-lt {a} {b} {c} h k = grind arith

stop_below : (d : Dir) (n j : ℕ) → j < n → stop d n j - 1 < n
stop_below Outbound n j l = omega arith
stop_below Inbound n j l = omega arith

module _ (a : Street) (t : BaseRecord) (h : IsValid a) (u : 2 ≤ t.unit) (d : Dir) (j : ℕ) (l : j < count a) where
  pub long_least : 2 ≤ long a t d j
  long_least = let r = red_bounds a h d (stop d (count a) j) (stop_below d (count a) j l) in
      let some : 1 * 2 ≤ red_parts a d (stop d (count a) j) * t.unit = mul-le r.0 u in omega (arith, some)

  pub long_most : long a t d j < cycle a t
  long_most = let r = red_bounds a h d (stop d (count a) j) (stop_below d (count a) j l) in mul-lt r.1 (omega (arith, u))

  pub gap_from_line : (x : ℤ) (b : ℕ) → IsGreenFrom a t d x b j → Gap (cycle a t) (seen a t d j) (long a t d j) x b
  gap_from_line x b g =
      let w = way a t d j in
      let o = gap_from_green (cycle a t) (long a t d j) (red_start a t d (stop d (count a) j)) (x +ℤ w) b long_least long_most (rw (crossing_is a t d x j) at g) in
      gap_later (cycle a t) (long a t d j) (red_start a t d (stop d (count a) j)) (x +ℤ w) b o (seen a t d j) x (pos 0 -ℤ w) (omega (arith, ints)) (omega (arith, ints))

  pub line_from_gap : (x : ℤ) (b : ℕ) → Gap (cycle a t) (seen a t d j) (long a t d j) x b → IsGreenFrom a t d x b j
  line_from_gap x b g =
      let w = way a t d j in
      rw (crossing_is a t d x j) (green_from_gap (cycle a t) (long a t d j) (red_start a t d (stop d (count a) j)) (x +ℤ w) b long_least long_most
      (gap_later (cycle a t) (long a t d j) (seen a t d j) x b g (red_start a t d (stop d (count a) j)) (x +ℤ w) w (omega (arith, ints)) (omega (arith, ints))))

module _ (a : Street) (t : BaseRecord) (h : IsValid a) (u : 2 ≤ t.unit) (d : Dir) where
  pub gaps_of : (x : ℤ) (b : ℕ) → RunsOn a t d x b → (k : ℕ) → k < count a → Gap (cycle a t) (seen a t d k) (long a t d k) x b
  gaps_of x b g k l = gap_from_line a t h u d k l x b (g k l)

  pub runs_from : (x : ℤ) (b : ℕ) → ((k : ℕ) → k < count a → Gap (cycle a t) (seen a t d k) (long a t d k) x b) → RunsOn a t d x b
  runs_from x b g = (λ k l. line_from_gap a t h u d k l x b (g k l))

  pub finer_gaps : (m : ℕ) (x : ℤ) (b : ℕ) → 1 ≤ m → RunsOn a (finer_base m t) d x b → (k : ℕ) → k < count a → Gap (cycle a t * m) (seen a t d k *ℤ pos m) (long a t d k * m) x b
  finer_gaps m x b q g k l =
      let two : 2 ≤ t.unit * m = let e = mul-le u q in omega (arith, e) in
      (gap_finer a t m d k x b).0 (gap_from_line a (finer_base m t) h two d k l x b (g k l))

  pub finer_runs : (m : ℕ) (x : ℤ) (b : ℕ) → 1 ≤ m → ((k : ℕ) → k < count a → Gap (cycle a t * m) (seen a t d k *ℤ pos m) (long a t d k * m) x b) → RunsOn a (finer_base m t) d x b
  finer_runs m x b q g =
      let two : 2 ≤ t.unit * m = let e = mul-le u q in omega (arith, e) in
      (λ k l. line_from_gap a (finer_base m t) h two d k l x b ((gap_finer a t m d k x b).1 (g k l)))
