-- The waits of a good timing lie within the greens.
use Rattle.std.proofs.Common.{◌≡◌, ℕ, ◌+◌, ◌-◌, ◌*◌, ◌<◌, ◌≤◌, refl, subst, arith, [], ◌∷◌}
use Rattle.rational_theory.specs.Rational.{◌+ℚ◌, ◌≤ℚ◌}
use Rattle.rational_theory.proofs.Ring.{at, lit, ◌⊕◌}
use Rattle.rational_theory.proofs.Linear.{linear}
use Rattle.rational_theory.proofs.Shares.{one_cycle, less_ticks, joined_ticks, at_most_ticks}
use Rattle.std.proofs.Common.{pos}
use Rattle.progression.specs.Street.{Street, count, HasSignal, red_parts}
use Rattle.progression.specs.TimingRecord.{TimingRecord, base, band}
use Rattle.progression.specs.BaseRecord.{cycle}
use Rattle.progression.specs.Green.{BandIsGreen, red_start, red_ticks}
use Rattle.progression.specs.Lines.{line_at}
use Rattle.progression.specs.Good.{Good}
use Rattle.progression.specs.Columns.{wait}
use Rattle.progression.specs.declared.parts.Dir.{Dir}
use Rattle.progression.specs.declared.parts.Dir.TheVariants.{Outbound, Inbound}
use Rattle.linear_theory.specs.Blocks.{green_part}
use Rattle.linear_theory.specs.Counts.{IsStreet}
use Rattle.linear_theory.proofs.Windows.{window_after, window_before}
use Rattle.linear_theory.proofs.Points.{share}
use Rattle.linear_theory.proofs.Shares.{cycle_above, ticked, parted, share_not_negative}

-- an artery has a signal
pub some_signal : (a : Street) → IsStreet a → 1 ≤ count a
some_signal a h = let n = h.signals in omega arith

-- some parts
pub parts_above : (a : Street) → IsStreet a → 0 < a.head.parts
parts_above a h = let g = h.green Outbound 1 (omega arith, (some_signal a h)) in omega arith

-- and a timing some units in a part
pub unit_above : (a : Street) (t : TimingRecord) → Good a t → 0 < t.unit
unit_above a t g = let p = g.base.formed in let u = p.unit in omega arith

-- products keep the order
mul-le : {a b c d : ℕ} → a ≤ b → c ≤ d → a * c ≤ b * d
mul-le {a} {b} {c} {d} h k = grind arith

below : {a b c : ℕ} → a < b → 0 < c → a * c < b * c
below {a} {b} {c} h k = grind arith

-- ---- reds, of any timing with two units or more in a part
module _ (a : Street) (t : TimingRecord) (h : IsStreet a) (u : 2 ≤ t.unit) where
  -- each red is two ticks long or more
  pub red_some : (d : Dir) (i : ℕ) → HasSignal a i → 2 ≤ red_ticks a (base t) d i
  red_some d i s = let e : 1 * 2 ≤ red_parts a d i * t.unit = mul-le (h.red d i s) u in omega (arith, e)

  -- and shorter than the cycle
  pub red_less : (d : Dir) (i : ℕ) → HasSignal a i → red_ticks a (base t) d i < cycle a (base t)
  red_less d i s = below (h.green d i s) (omega arith)

-- ---- bands and waits, of good timings
module _ (a : Street) (t : TimingRecord) (h : IsStreet a) (g : Good a t) where
  -- the bands are green at each signal, by its number
  green_at : (d : Dir) (i : ℕ) → HasSignal a i → BandIsGreen (cycle a (base t)) (red_start a (base t) d i) (red_ticks a (base t) d i) (line_at a t d i) (band t d)
  green_at Outbound i s =
      let k = s.0 in let l = s.1 in
      let e : i - 1 + 1 ≡ i = omega arith in
      subst (λ j. BandIsGreen (cycle a (base t)) (red_start a (base t) Outbound j) (red_ticks a (base t) Outbound j) (line_at a t Outbound i) t.band_out) e (g.outbound (i - 1) (omega arith))
  green_at Inbound i s =
      let k = s.0 in let l = s.1 in
      let e : count a - (count a - i) ≡ i = omega arith in
      subst (λ j. BandIsGreen (cycle a (base t)) (red_start a (base t) Inbound j) (red_ticks a (base t) Inbound j) (line_at a t Inbound i) t.band_in) e (g.inbound (count a - i) (omega arith))

  -- a wait and its band fit into the green
  pub wait_fits : (d : Dir) (i : ℕ) → HasSignal a i → wait a t d i + band t d + red_ticks a (base t) d i ≤ cycle a (base t)
  wait_fits Outbound i s =
      let p = g.base.formed in let r = red_less a t h p.unit Outbound i s in
      let w = (window_after (cycle a (base t)) (red_ticks a (base t) Outbound i) (red_start a (base t) Outbound i) (line_at a t Outbound i) t.band_out (red_some a t h p.unit Outbound i s) r).0
      (green_at Outbound i s) in
      omega arith
  wait_fits Inbound i s =
      let p = g.base.formed in let r = red_less a t h p.unit Inbound i s in
      let w = (window_before (cycle a (base t)) (red_ticks a (base t) Inbound i) (red_start a (base t) Inbound i) (line_at a t Inbound i) t.band_in (red_some a t h p.unit Inbound i s) r).0
      (green_at Inbound i s) in
      omega arith

  -- as fractions of the cycle
  pub wait_and_band : (d : Dir) (i : ℕ) → HasSignal a i → (share a t (wait a t d i) +ℚ share a t (band t d)) ≤ℚ green_part a d i
  wait_and_band d i s =
      let p = parts_above a h in let u = unit_above a t g in
      let c = cycle_above a t p u in
      at_most_ticks (cycle a (base t)) c _ _ _ _ _ _
      (joined_ticks (cycle a (base t)) c _ _ _ _ _ _ (ticked a t p u (wait a t d i)) (ticked a t p u (band t d)))
      (less_ticks (cycle a (base t)) c _ _ _ _ _ _ (one_cycle (cycle a (base t)) c) (parted a t p u (red_parts a d i)))
      (let w = wait_fits d i s in omega arith)

  -- a wait alone
  pub wait_most : (d : Dir) (i : ℕ) → HasSignal a i → share a t (wait a t d i) ≤ℚ green_part a d i
  wait_most d i s =
      linear (record { count = 1; low = at 0 ⊕ at 1; high = at 2 } ∷ record { count = 1; low = lit (pos 0); high = at 1 } ∷ []) 0 (at 0) (at 2)
      (share a t (wait a t d i) ∷ share a t (band t d) ∷ green_part a d i ∷ [])
      (wait_and_band d i s, (share_not_negative a t (parts_above a h) (unit_above a t g) (band t d), tt)) refl
