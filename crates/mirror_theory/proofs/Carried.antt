-- Equal bands on any grid are carried to a band that runs on the doubled grid: no wider band is lost.
use Rattle.std.proofs.Common.{◌≡◌, ◌⊎◌, inl, inr, ℕ, ℤ, pos, ◌+ℤ◌, ◌-ℤ◌, ◌*ℤ◌, ◌+◌, ◌-◌, ◌*◌, ◌<◌, ◌≤◌, arith, subst}
use Rattle.std.proofs.lemmas.Int.{ints}
use Rattle.std.proofs.Math.Nat.{mul-le-mul_right, mul-lt-mul_of_pos_right}
use Rattle.time_space.proofs.FinerGrids.{mul-le, red_bounds}
use Rattle.rational_theory.proofs.Integers.{+ℤ-*ℤ}
use Rattle.progression.specs.Street.{Street, count, HasSignal, red_parts}
use Rattle.progression.specs.TimingRecord.{TimingRecord, base}
use Rattle.progression.specs.BaseRecord.{cycle}
use Rattle.progression.specs.Green.{mod_ℤ, red_start, red_ticks, BandIsGreen}
use Rattle.progression.specs.Lines.{crossing}
use Rattle.progression.proofs.Remainders.{split_ℤ, mod_below, quot_ℤ}
use Rattle.progression.specs.declared.parts.Dir.{Dir}
use Rattle.progression.specs.declared.parts.Dir.TheVariants.{Outbound, Inbound}
use Rattle.artery_model.specs.Valid.{IsValid}
use Rattle.linear_theory.proofs.Windows.{window_after}
use Rattle.mirror_theory.specs.EqualBands.{IsEven, HasEqualGreenBands}
use Rattle.mirror_theory.proofs.Centring.{HasPhase, centring}
use Rattle.band_measure.specs.Edges.{way}
use Rattle.mirror_theory.specs.Runs.{far, wait_in_phase, taken}
use Rattle.mirror_theory.proofs.Ways.{crossing_out, crossing_in, cycle_kept, way_kept, red_ticks_kept, even_kept}

-- in ticks a red has at least two, and leaves some green
pub red_fits : (a : Street) (t : TimingRecord) → IsValid a → 2 ≤ t.unit → (d : Dir) (i : ℕ) → HasSignal a i → (2 ≤ red_ticks a (base t) d i) × (red_ticks a (base t) d i < cycle a (base t))
red_fits a t h u d i b =
    let r = red_bounds a h d i (let l = b.0 in let k = b.1 in omega arith) in
    let some : 1 * 2 ≤ red_parts a d i * t.unit = mul-le r.0 u in
    (omega (arith, some), mul-lt-mul_of_pos_right r.1 (omega arith))

module _ (a : Street) (t : TimingRecord) (v : IsValid a) (u : 2 ≤ t.unit) (even : IsEven a t) (m : ℕ) (s : TimingRecord) (o : 1 ≤ m) (h : HasEqualGreenBands a t m s) where
  -- the outbound band's left edge at signal 1 of the doubled grid, with the axis of the mirror at 0
  abbrev pub mirrored_first : ℤ
  mirrored_first = s.first_out -ℤ crossing a s Inbound (count a - 1) -ℤ pos s.band_out

  abbrev pub carried_first : ℤ
  carried_first = quot_ℤ mirrored_first m

  unit_kept : 2 ≤ s.unit
  unit_kept = let e : 2 * 1 ≤ t.unit * m = mul-le u o in rw h.keeps.unit (omega (arith, e))

  -- at signal j + 1
  wait_at : (d : Dir) (j : ℕ) (x : ℤ) (b : ℕ) → j < count a → BandIsGreen (cycle a (base s)) (red_start a (base s) d (j + 1)) (red_ticks a (base s) d (j + 1)) x b
      → mod_ℤ (x -ℤ (red_start a (base s) d (j + 1) +ℤ pos (red_ticks a (base t) d (j + 1) * m))) (cycle a (base t) * m) + b + red_ticks a (base t) d (j + 1) * m ≤ cycle a (base t) * m
  wait_at d j x b l g =
      let f = red_fits a s v unit_kept d (j + 1) (omega arith, omega arith) in
      let w = (window_after (cycle a (base s)) (red_ticks a (base s) d (j + 1)) (red_start a (base s) d (j + 1)) x b f.0 f.1).0 g in
      rw (← (red_ticks_kept a t m s h.keeps d (j + 1)), ← (cycle_kept a t m s h.keeps)) (let f1 = f.1 in omega arith)

  -- the mirrored band at signal j + 1, on the doubled grid: a multiple of m, and the same part
  carried_at : (j : ℕ) → j < count a
      → crossing a s Outbound j -ℤ crossing a s Inbound (count a - (j + 1)) -ℤ pos s.band_out
      ≡ (carried_first +ℤ far a t (j + 1)) *ℤ pos m +ℤ pos (mod_ℤ mirrored_first m)
  carried_at j l =
      let e = crossing_out a s j in
      let f = crossing_in a s (even_kept a t m s h.keeps even).links j l in
      let w = way_kept a t m s h.keeps j in
      let p = split_ℤ mirrored_first m o in
      let one : (j + 1) - 1 ≡ j = omega arith in
      let d1 = +ℤ-*ℤ carried_first (way a (base t) Outbound j +ℤ way a (base t) Outbound j) (pos m) in
      let d2 = +ℤ-*ℤ (way a (base t) Outbound j) (way a (base t) Outbound j) (pos m) in
      rw one (omega (arith, ints, e, f, w, p, d1, d2))

  -- at signal j + 1 the band fits one of the phases
  phase_at : (j : ℕ) → j < count a
      → HasPhase (cycle a (base t)) (red_ticks a (base t) Outbound (j + 1)) m (s.band_out + s.band_out) (carried_first +ℤ far a t (j + 1)) 0
      ⊎ HasPhase (cycle a (base t)) (red_ticks a (base t) Outbound (j + 1)) m (s.band_out + s.band_out) (carried_first +ℤ far a t (j + 1)) (cycle a (base t))
  phase_at j l =
      let i = j + 1 in
      let n = count a in
      let r = red_fits a t v u Outbound i (omega arith, omega arith) in
      let reds = (even_kept a t m s h.keeps even).reds i (omega arith, omega arith) in
      let place : n - (n - i) ≡ i = omega arith in
      let out = wait_at Outbound j (crossing a s Outbound j) s.band_out l (h.outbound j l) in
      let back : BandIsGreen (cycle a (base s)) (red_start a (base s) Inbound i) (red_ticks a (base s) Inbound i) (crossing a s Inbound (n - i)) s.band_in =
      subst (λ k. BandIsGreen (cycle a (base s)) (red_start a (base s) Inbound k) (red_ticks a (base s) Inbound k) (crossing a s Inbound (n - i)) s.band_in) place
      (h.inbound (n - i) (omega arith)) in
      let back_red : BandIsGreen (cycle a (base s)) (red_start a (base s) Outbound i) (red_ticks a (base s) Outbound i) (crossing a s Inbound (n - i)) s.band_out =
      rw (reds.start, reds.length, h.equal) back in
      let in_wait = wait_at Outbound j (crossing a s Inbound (n - i)) s.band_out l back_red in
      centring (cycle a (base t)) (red_ticks a (base t) Outbound i) m (mod_ℤ mirrored_first m) s.band_out (red_start a (base s) Outbound i) (crossing a s Outbound j)
      (crossing a s Inbound (n - i)) (carried_first +ℤ far a t i) (let r0 = r.0 in omega arith) (let r1 = r.1 in omega arith) (mod_below mirrored_first m o)
      (carried_at j l) out in_wait

  -- and so has the better phase
  taken_at : (i : ℕ)
      → HasPhase (cycle a (base t)) (red_ticks a (base t) Outbound i) m (s.band_out + s.band_out) (carried_first +ℤ far a t i) 0
      ⊎ HasPhase (cycle a (base t)) (red_ticks a (base t) Outbound i) m (s.band_out + s.band_out) (carried_first +ℤ far a t i) (cycle a (base t))
      → taken a t carried_first i * m + (s.band_out + s.band_out) ≤ (cycle a (base t) + cycle a (base t)) * m
  taken_at i p =
      let r = red_ticks a (base t) Outbound i in
      elim p [
        | inl z ↦ let e : taken a t carried_first i * m ≤ (wait_in_phase a t carried_first i 0 + r + r) * m = mul-le-mul_right m (omega arith) in omega (arith, z, e)
        | inr z ↦ let e : taken a t carried_first i * m ≤ (wait_in_phase a t carried_first i (cycle a (base t)) + r + r) * m = mul-le-mul_right m (omega arith) in omega (arith, z, e)
      ]

  -- what is taken at each signal, and twice the band, fit into the cycle
  pub carried : (i : ℕ) → HasSignal a i → taken a t carried_first i * m + (s.band_out + s.band_out) ≤ (cycle a (base t) + cycle a (base t)) * m
  carried i b =
      let l = b.0 in
      let k = b.1 in
      let one : (i - 1) + 1 ≡ i = omega arith in
      subst (λ k. taken a t carried_first k * m + (s.band_out + s.band_out) ≤ (cycle a (base t) + cycle a (base t)) * m) one (taken_at (i - 1 + 1) (phase_at (i - 1) (omega arith)))
