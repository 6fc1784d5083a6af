-- Where the lines cross, signal by signal: equal travel both ways makes the two lines mirror images, so at every signal the sum
-- of both crossings is the same.
use Rattle.std.proofs.Common.{◌≡◌, ℕ, zero, suc, pos, ◌+ℤ◌, ◌-ℤ◌, ◌*ℤ◌, ◌+◌, ◌-◌, ◌*◌, ◌<◌, ◌≤◌, refl, ap, ◌∙◌, arith}
use Rattle.std.proofs.lemmas.Int.{ints}
use Rattle.rational_theory.proofs.Integers.{+ℤ-*ℤ}
use Rattle.progression.specs.Street.{Street, count, clearance}
use Rattle.progression.specs.TimingRecord.{TimingRecord, base}
use Rattle.progression.specs.BaseRecord.{cycle, run}
use Rattle.progression.specs.Green.{ahead, red_ticks}
use Rattle.progression.specs.Lines.{crossing}
use Rattle.time_space.proofs.Scale.{minus_scale}
use Rattle.time_space.proofs.FinerGrids.{cycle_finer, run_finer, ahead_finer, red_ticks_finer}
use Rattle.band_measure.specs.Edges.{way}
use Rattle.progression.proofs.Crossings.{crossing_next}
use Rattle.progression.specs.declared.parts.Dir.{Dir}
use Rattle.progression.specs.declared.parts.Dir.TheVariants.{Outbound, Inbound}
use Rattle.mirror_theory.specs.EqualBands.{travel, IsEven, Keeps}

-- an outbound line is where it began, and its way
pub crossing_out : (a : Street) (t : TimingRecord) (j : ℕ) → crossing a t Outbound j ≡ t.first_out +ℤ way a (base t) Outbound j
crossing_out a t zero = omega (arith, ints)
crossing_out a t (suc j) = let e = crossing_out a t j in omega (arith, ints, e)

-- one step of an inbound line, against its way
pub crossing_in_step : (a : Street) (t : TimingRecord) (j : ℕ) → j + 1 < count a
    → crossing a t Inbound (count a - (j + 1)) ≡ crossing a t Inbound (count a - (j + 2)) +ℤ travel a t Inbound (j + 1)
crossing_in_step a t j h =
    let n = count a in
    let k = n - (j + 2) in
    let e : n - (j + 1) ≡ k + 1 = omega arith in
    let f : n - 1 - k ≡ j + 1 = omega arith in
    let g : n - (k + 1) ≡ j + 1 = omega arith in
    ap (crossing a t Inbound) e ∙ crossing_next a (base t) Inbound t.first_in k
    ∙ ap (λ i. crossing a t Inbound k +ℤ (pos (run (base t) Inbound i) -ℤ pos (clearance a Inbound (n - (k + 1)) * t.unit))) f
    ∙ ap (λ i. crossing a t Inbound k +ℤ (pos (run (base t) Inbound (j + 1)) -ℤ pos (clearance a Inbound i * t.unit))) g

-- so at signal j + 1 the inbound line is as much earlier as the outbound line is later
pub crossing_in : (a : Street) (t : TimingRecord) → ((i : ℕ) → (1 ≤ i) × (i < count a) → travel a t Outbound i ≡ travel a t Inbound i) → (j : ℕ) → j < count a
    → crossing a t Inbound (count a - (j + 1)) +ℤ way a (base t) Outbound j ≡ crossing a t Inbound (count a - 1)
crossing_in a t h zero l = omega (arith, ints)
crossing_in a t h (suc j) l =
    let e = crossing_in a t h j (omega arith) in
    let f = crossing_in_step a t j (omega arith) in
    let g = h (j + 1) (omega arith, omega arith) in
    let two : suc j + 1 ≡ j + 2 = omega arith in
    rw two (omega (arith, ints, e, f, g))

-- ---- on a finer grid
module _ (a : Street) (t : TimingRecord) (m : ℕ) (s : TimingRecord) (k : Keeps t m s) where
  pub cycle_kept : cycle a (base s) ≡ cycle a (base t) * m
  cycle_kept = rw k.unit (cycle_finer a (base t) m)

  pub run_kept : (d : Dir) (i : ℕ) → run (base s) d i ≡ run (base t) d i * m
  run_kept Outbound i = rw k.run_out (run_finer a (base t) m Outbound i)
  run_kept Inbound i = rw k.run_in (run_finer a (base t) m Inbound i)

  pub travel_kept : (d : Dir) (i : ℕ) → travel a s d i ≡ travel a t d i *ℤ pos m
  travel_kept Outbound i =
      let assoc : clearance a Outbound (i + 1) * (t.unit * m) ≡ clearance a Outbound (i + 1) * t.unit * m = omega arith in
      rw (run_kept Outbound i, k.unit, assoc) (minus_scale (pos (run (base t) Outbound i)) (pos (clearance a Outbound (i + 1) * t.unit)) m)
  travel_kept Inbound i =
      let assoc : clearance a Inbound i * (t.unit * m) ≡ clearance a Inbound i * t.unit * m = omega arith in
      rw (run_kept Inbound i, k.unit, assoc) (minus_scale (pos (run (base t) Inbound i)) (pos (clearance a Inbound i * t.unit)) m)

  pub way_kept : (j : ℕ) → way a (base s) Outbound j ≡ way a (base t) Outbound j *ℤ pos m
  way_kept zero = omega (arith, ints)
  way_kept (suc j) =
      let d = +ℤ-*ℤ (way a (base t) Outbound j) (travel a t Outbound (j + 1)) (pos m) in
      let e = way_kept j in
      let f = travel_kept Outbound (j + 1) in
      omega (arith, ints, d, e, f)

  pub ahead_kept : (d : Dir) (i : ℕ) → ahead a (base s) d i ≡ ahead a (base t) d i * m
  ahead_kept d i = rw (k.patterns, k.unit) (ahead_finer a (base t) m d i)

  pub red_ticks_kept : (d : Dir) (i : ℕ) → red_ticks a (base s) d i ≡ red_ticks a (base t) d i * m
  red_ticks_kept d i = rw k.unit (red_ticks_finer a (base t) m d i)

  -- equal travel is equal on every grid, and one red is one red
  pub even_kept : IsEven a t → IsEven a s
  even_kept h = record {
    reds = λ i b. record {
      start = let e = (h.reds i b).start in
          let f : ahead a (base t) Outbound i ≡ ahead a (base t) Inbound i = omega (arith, ints, e) in
          rw (ahead_kept Outbound i, ahead_kept Inbound i, f) refl;
      length = rw (red_ticks_kept Outbound i, red_ticks_kept Inbound i, (h.reds i b).length) refl;
    };
    links = λ i b. rw (travel_kept Outbound i, travel_kept Inbound i, h.links i b) refl;
  }
