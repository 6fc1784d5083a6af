-- The bands of a placed timing have the waits by which it was placed: outbound by the reds, inbound since the block sums are whole.
use Rattle.std.proofs.Common.{◌≡◌, ℕ, zero, suc, ℤ, pos, ◌+ℤ◌, ◌-ℤ◌, ◌*ℤ◌, neg_ℤ, ◌+◌, ◌-◌, ◌*◌, ◌<◌, ◌≤◌, refl, ◌∙◌, ap, subst, arith, IsTrue}
use Rattle.std.proofs.lemmas.Int.{ints}
use Rattle.rational_theory.proofs.Integers.{+ℤ-*ℤ, neg_ℤ-*ℤ}
use Rattle.progression.specs.Street.{Street, count, signal_of, clearance, allows, HasSignal, HasLink}
use Rattle.progression.specs.TimingRecord.{TimingRecord, base}
use Rattle.progression.specs.BaseRecord.{pattern_of}
use Rattle.progression.specs.Green.{mod_ℤ, red_start}
use Rattle.progression.specs.Lines.{crossing, line_at}
use Rattle.progression.specs.Columns.{Column, BandOf, WaitOf, RunOf, ShiftOf, shift}
use Rattle.progression.specs.declared.parts.Dir.TheVariants.{Outbound, Inbound}
use Rattle.progression.proofs.Remainders.{quot_ℤ, split_ℤ, mod_unique}
use Rattle.linear_theory.proofs.WholeBlocks.{line_out, line_in, ends}
use Rattle.recovery_theory.specs.Placing.{red_end, unplaced, with_out, with_reds, first_in_of, placed}
use Rattle.recovery_theory.proofs.Placed.{run_is, next_red, same_line, red_end_is}

-- y is w after some whole cycles
pub record Turned (c : ℕ) (y : ℤ) (w : ℕ) : Type 0 where
  pub turns : ℤ
  pub is : y ≡ turns *ℤ pos c +ℤ pos w

-- a remainder, taken away again
remains : (z y : ℤ) (c w : ℕ) → 0 < c → z ≡ y +ℤ pos w → Turned c (pos (mod_ℤ z c) -ℤ y) w
remains z y c w h e =
    let s = split_ℤ z c h in
    let n = neg_ℤ-*ℤ (quot_ℤ z c) (pos c) in
    record { turns = neg_ℤ (quot_ℤ z c); is = omega (arith, ints, s, n, e) }

taken : (z y : ℤ) (c w : ℕ) → 0 < c → z ≡ y -ℤ pos w → Turned c (y -ℤ pos (mod_ℤ z c)) w
taken z y c w h e =
    let s = split_ℤ z c h in
    record { turns = quot_ℤ z c; is = omega (arith, ints, s, e) }

moved : {c : ℕ} {y z : ℤ} {w : ℕ} → y ≡ z → Turned c z w → Turned c y w
moved {c} {y} {z} {w} e t = record { turns = t.turns; is = e ∙ t.is }

-- the whole remainder
pub turned_mod : {c : ℕ} {y : ℤ} {w : ℕ} → Turned c y w → w < c → mod_ℤ y c ≡ w
turned_mod {c} {y} {w} t l = mod_unique y t.turns c w t.is l

-- a link's block sum, whose terms have these ticks, is a whole number of cycles
pub record WholeTicks (a : Street) (unit : ℕ) (ticks : Column → ℕ) (i : ℕ) : Type 0 where
  pub cycles : ℤ
  pub is :
      pos (ticks (WaitOf Outbound i) + ticks (WaitOf Inbound i) + ticks (RunOf Outbound i) + ticks (RunOf Inbound i) + ticks (ShiftOf i) + (signal_of a i).red * unit)
      ≡ cycles *ℤ pos (a.head.parts * unit)
      +ℤ pos (ticks (WaitOf Outbound (i + 1)) + ticks (WaitOf Inbound (i + 1)) + ticks (ShiftOf (i + 1)) + (signal_of a (i + 1)).red * unit
      + clearance a Outbound (i + 1) * unit + clearance a Inbound i * unit)

module _ (a : Street) (unit : ℕ) (ticks : Column → ℕ) (pattern : ℕ → ℕ) (above : 0 < a.head.parts * unit) where
  abbrev pub timing : TimingRecord
  timing = placed a unit ticks pattern

  -- outbound: at the first signal, and at the others
  first_turned : Turned (a.head.parts * unit) (line_at a timing Outbound 1 -ℤ red_end a timing 1) (ticks (WaitOf Outbound 1))
  first_turned =
      moved (omega (arith, ints, red_end_is a unit ticks pattern 1))
      (remains (red_end a (unplaced a unit ticks pattern) 1 +ℤ pos (ticks (WaitOf Outbound 1))) (red_end a (unplaced a unit ticks pattern) 1)
      (a.head.parts * unit) (ticks (WaitOf Outbound 1)) above refl)

  next_turned : (i : ℕ) → 2 ≤ i → i ≤ count a → Turned (a.head.parts * unit) (line_at a timing Outbound i -ℤ red_end a timing i) (ticks (WaitOf Outbound i))
  next_turned i h k =
      let line = line_at a (with_out a unit ticks pattern) Outbound i in
      let end = red_end a (with_out a unit ticks pattern) i in
      let wait = ticks (WaitOf Outbound i) in
      let e = same_line a unit ticks pattern i in
      let r = next_red a unit ticks pattern i h k in
      let f = red_end_is a unit ticks pattern i in
      moved (omega (arith, ints, e, r, f)) (taken (line -ℤ pos wait -ℤ end) (line -ℤ end) (a.head.parts * unit) wait above (omega (arith, ints)))

  pub out_turned : (i : ℕ) → HasSignal a i → Turned (a.head.parts * unit) (line_at a timing Outbound i -ℤ red_end a timing i) (ticks (WaitOf Outbound i))
  out_turned zero h = absurd (omega (arith, h.0))
  out_turned (suc zero) h = first_turned
  out_turned (suc (suc i)) h = next_turned (suc (suc i)) (omega arith) h.1

  -- inbound: at the last signal
  last_turned : Turned (a.head.parts * unit) (red_start a (base timing) Inbound (count a) -ℤ line_at a timing Inbound (count a) -ℤ pos (ticks (BandOf Inbound))) (ticks (WaitOf Inbound (count a)))
  last_turned =
      let start = red_start a (base (with_reds a unit ticks pattern)) Inbound (count a) in
      let wait = ticks (WaitOf Inbound (count a)) in
      let band = ticks (BandOf Inbound) in
      let z : count a - count a ≡ 0 = omega arith in
      let e : line_at a timing Inbound (count a) ≡ pos (first_in_of a unit ticks pattern) = ap (crossing a timing Inbound) z in
      moved (omega (arith, ints, e)) (taken (start -ℤ pos wait -ℤ pos band) (start -ℤ pos band) (a.head.parts * unit) wait above (omega (arith, ints)))

  module _ (allowed : (i : ℕ) → HasSignal a i → IsTrue (allows a i (pattern_of (base timing) i))) (shifts : (i : ℕ) → HasSignal a i → ticks (ShiftOf i) ≡ shift a (base timing) i * unit)
      (blocks : (i : ℕ) → HasLink a i → WholeTicks a unit ticks i) where
    -- and from each signal to the one before
    step_turned : (i : ℕ) → HasLink a i
        → Turned (a.head.parts * unit) (red_start a (base timing) Inbound (i + 1) -ℤ line_at a timing Inbound (i + 1) -ℤ pos (ticks (BandOf Inbound))) (ticks (WaitOf Inbound (i + 1)))
        → Turned (a.head.parts * unit) (red_start a (base timing) Inbound i -ℤ line_at a timing Inbound i -ℤ pos (ticks (BandOf Inbound))) (ticks (WaitOf Inbound i))
    step_turned i h m =
        let l = h.1 in
        let here : HasSignal a i = (h.0, omega arith) in
        let next : HasSignal a (i + 1) = (omega arith, omega arith) in
        let p = out_turned i here in
        let q = out_turned (i + 1) next in
        let e = ends a timing i (allowed i here) in
        let f = ends a timing (i + 1) (allowed (i + 1) next) in
        let s = shifts i here in
        let t = shifts (i + 1) next in
        let b = blocks i h in
        let o = line_out a timing i h.0 in
        let n = line_in a timing i h.0 h.1 in
        let ro = run_is a unit ticks pattern Outbound i h in
        let ri = run_is a unit ticks pattern Inbound i h in
        let c = pos (a.head.parts * unit) in
        let turns = m.turns +ℤ q.turns +ℤ neg_ℤ p.turns +ℤ neg_ℤ b.cycles in
        let d1 = +ℤ-*ℤ (m.turns +ℤ q.turns +ℤ neg_ℤ p.turns) (neg_ℤ b.cycles) c in
        let d2 = +ℤ-*ℤ (m.turns +ℤ q.turns) (neg_ℤ p.turns) c in
        let d3 = +ℤ-*ℤ m.turns q.turns c in
        let n1 = neg_ℤ-*ℤ p.turns c in
        let n2 = neg_ℤ-*ℤ b.cycles c in
        record {
          turns = turns;
          is = omega (arith, ints, p.is, q.is, e, f, s, t, b.is, o, n, ro, ri, m.is, d1, d2, d3, n1, n2);
        }

    in_turned_by : (d i : ℕ) → i + d ≡ count a → 1 ≤ i
        → Turned (a.head.parts * unit) (red_start a (base timing) Inbound i -ℤ line_at a timing Inbound i -ℤ pos (ticks (BandOf Inbound))) (ticks (WaitOf Inbound i))
    in_turned_by zero i e h =
        subst (λ k. Turned (a.head.parts * unit) (red_start a (base timing) Inbound k -ℤ line_at a timing Inbound k -ℤ pos (ticks (BandOf Inbound))) (ticks (WaitOf Inbound k)))
        (omega arith) last_turned
    in_turned_by (suc d) i e h = step_turned i (h, omega arith) (in_turned_by d (i + 1) (omega arith) (omega arith))

    pub in_turned : (i : ℕ) → HasSignal a i
        → Turned (a.head.parts * unit) (red_start a (base timing) Inbound i -ℤ line_at a timing Inbound i -ℤ pos (ticks (BandOf Inbound))) (ticks (WaitOf Inbound i))
    in_turned i h = let k = h.1 in in_turned_by (count a - i) i (omega arith) h.0
