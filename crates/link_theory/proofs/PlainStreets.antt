-- What an artery has in common with the same artery without least bands and equal bands: all but these. It is shown of any least bands, so that it
-- holds of both ways between the two.
use Rattle.std.proofs.Common.{◌≡◌, ◌<◌, ◌≤◌, ℕ, zero, suc, ◌+ℤ◌, ◌-ℤ◌, pos, refl, ap, ◌∙◌, Bool, false}
use Rattle.std.specs.Prelude.{map, IfSome, ◌+◌, ◌-◌}
use Rattle.rational_theory.specs.Rational.{ℚ, ◌*ℚ◌, ◌≤ℚ◌, ◌<ℚ◌}
use Rattle.progression.specs.Street.{Street, count, HasSignal, HasLink, red_parts, speed}
use Rattle.progression.specs.Speeds.{number, run_low, run_high, change}
use Rattle.progression.specs.TimingRecord.{TimingRecord, base}
use Rattle.progression.specs.BaseRecord.{BaseRecord, cycle, run}
use Rattle.progression.specs.Green.{mod_ℤ, red_start, red_ticks}
use Rattle.progression.specs.Lines.{advance, crossing, line_at}
use Rattle.progression.specs.Good.{IsBase, pace_change}
use Rattle.progression.specs.Columns.{Column, BandOf, Frequency, WaitOf, RunOf, ShiftOf, columns, ticks, point}
use Rattle.progression.proofs.WorkedLemmas.{both}
use Rattle.progression.specs.declared.parts.Pair.{Pair}
use Rattle.progression.specs.declared.parts.Dir.{Dir}
use Rattle.progression.specs.declared.parts.Dir.TheVariants.{Outbound, Inbound}
use Rattle.linear_theory.specs.Blocks.{block_sum}
use Rattle.linear_theory.specs.Boxes.{Area, IsRoot, IsBoxOf, LoopIn, TurnIn, InBox}
use Rattle.linear_theory.specs.Names.{Name, WaitRow, FastRow, SlowRow, RiseRow, DropRow, CycleLowRow, CycleHighRow, RatioRow, LoopLowRow, LoopHighRow}
use Rattle.linear_theory.specs.Names.{TurnLowRow, TurnHighRow, LeastRow, EqualLowRow, EqualHighRow, NoRow, HasRow, form_of}
use Rattle.linear_theory.specs.Counts.{IsStreet}
use Rattle.linear_theory.proofs.Points.{share}
use Rattle.link_theory.specs.Plain.{plain}
use Rattle.link_theory.specs.LinkNames.{NamesNoBand}

-- the artery with other least bands, and with equal bands or without
abbrev with_leasts : Street → ℚ → ℚ → Bool → Street
with_leasts a out back e = record a { head = record a.head { least_out = out; least_in = back; equal = e } }

module _ (a : Street) (out back : ℚ) (e : Bool) where
  abbrev other : Street
  other = with_leasts a out back e

  -- ---- lines and points
  module _ (t : TimingRecord) where
    other_crossing : (d : Dir) (j : ℕ) → crossing other t d j ≡ crossing a t d j
    other_crossing d zero = refl
    other_crossing Outbound (suc j) = ap (λ z. z +ℤ advance a (base t) Outbound j) (other_crossing Outbound j)
    other_crossing Inbound (suc j) = ap (λ z. z +ℤ advance a (base t) Inbound j) (other_crossing Inbound j)

    other_line : (d : Dir) (i : ℕ) → line_at other t d i ≡ line_at a t d i
    other_line Outbound i = other_crossing Outbound (i - 1)
    other_line Inbound i = other_crossing Inbound (count a - i)

    other_ticks : (c : Column) → ticks other t c ≡ ticks a t c
    other_ticks (BandOf d) = refl
    other_ticks Frequency = refl
    other_ticks (WaitOf Outbound i) = ap (λ z. mod_ℤ (z -ℤ (red_start a (base t) Outbound i +ℤ pos (red_ticks a (base t) Outbound i))) (cycle a (base t))) (other_line Outbound i)
    other_ticks (WaitOf Inbound i) = ap (λ z. mod_ℤ (red_start a (base t) Inbound i -ℤ z -ℤ pos t.band_in) (cycle a (base t))) (other_line Inbound i)
    other_ticks (RunOf d i) = refl
    other_ticks (ShiftOf i) = refl

    other_point : point other t ≡ point a t
    other_point = λ i. map (λ c. share a t (other_ticks c i)) (columns (count a))

  -- ---- the rules of a base
  other_base : (b : BaseRecord) → IsBase a b → IsBase other b
  other_base b g = record {
    formed = g.formed;
    shape = g.shape;
    patterns = g.patterns;
    cycle_least = g.cycle_least;
    cycle_most = g.cycle_most;
    fast = both (λ d. (i : ℕ) → HasLink a i → (run_low other d i *ℚ number b.grid) ≤ℚ number (run b d i)) (g.fast Outbound) (g.fast Inbound);
    slow = both (λ d. (i : ℕ) → HasLink a i → number (run b d i) ≤ℚ (run_high other d i *ℚ number b.grid)) (g.slow Outbound) (g.slow Inbound);
    rise = both (λ d. (i : ℕ) → HasLink a i → HasLink a (i + 1) → IfSome (change other d i) (λ (c : Pair). pace_change other b d i ≤ℚ (c.most *ℚ number b.grid))) (g.rise Outbound) (g.rise Inbound);
    drop = both (λ d. (i : ℕ) → HasLink a i → HasLink a (i + 1) → IfSome (change other d i) (λ (c : Pair). (c.least *ℚ number b.grid) ≤ℚ pace_change other b d i)) (g.drop Outbound) (g.drop Inbound);
  }

  -- ---- boxes
  module _ (box : Area) where
    other_box : IsBoxOf a box → IsBoxOf other box
    other_box b = record { loops_count = b.loops_count; turns_count = b.turns_count; spans = b.spans; ranks_order = b.ranks_order; ranks_most = b.ranks_most }

    other_loop : (t : TimingRecord) (i : ℕ) → LoopIn a box t i → LoopIn other box t i
    other_loop t i l = record { number = l.number; is = ap (λ x. block_sum a x i) (other_point t) ∙ l.is; least = l.least; most = l.most }

    other_turn : (t : TimingRecord) (i : ℕ) → TurnIn a box t i → TurnIn other box t i
    other_turn t i l = record { rank = l.rank; is = l.is; least = l.least; most = l.most }

    other_inside : (t : TimingRecord) → InBox a box t → InBox other box t
    other_inside t m = record { loops = λ i k. other_loop t i (m.loops i k); turns = λ i k. other_turn t i (m.turns i k) }

  -- ---- rows that name no band
  other_has : (n : Name) → NamesNoBand n → HasRow a n → HasRow other n
  other_has (WaitRow d i) m h = absurd m
  other_has (FastRow d i) m h = h
  other_has (SlowRow d i) m h = h
  other_has (RiseRow Outbound i) m h = h
  other_has (RiseRow Inbound i) m h = h
  other_has (DropRow Outbound i) m h = h
  other_has (DropRow Inbound i) m h = h
  other_has (CycleLowRow i) m h = h
  other_has (CycleHighRow i) m h = h
  other_has (RatioRow i) m h = absurd m
  other_has (LoopLowRow i) m h = h
  other_has (LoopHighRow i) m h = h
  other_has (TurnLowRow i) m h = h
  other_has (TurnHighRow i) m h = h
  other_has (LeastRow d i) m h = absurd m
  other_has (EqualLowRow i) m h = absurd m
  other_has (EqualHighRow i) m h = absurd m
  other_has NoRow m h = absurd m

-- ---- without least bands and equal bands
module _ (a : Street) where
  pub same_crossing : (t : TimingRecord) (d : Dir) (j : ℕ) → crossing (plain a) t d j ≡ crossing a t d j
  same_crossing = other_crossing a (number 0) (number 0) false

  pub same_ticks : (t : TimingRecord) (c : Column) → ticks (plain a) t c ≡ ticks a t c
  same_ticks = other_ticks a (number 0) (number 0) false

  pub same_point : (t : TimingRecord) → point (plain a) t ≡ point a t
  same_point = other_point a (number 0) (number 0) false

  pub plain_base : (b : BaseRecord) → IsBase a b → IsBase (plain a) b
  plain_base = other_base a (number 0) (number 0) false

  pub from_plain_base : (b : BaseRecord) → IsBase (plain a) b → IsBase a b
  from_plain_base = other_base (plain a) a.head.least_out a.head.least_in a.head.equal

  pub plain_box : (box : Area) → IsBoxOf a box → IsBoxOf (plain a) box
  plain_box = other_box a (number 0) (number 0) false

  pub from_plain_box : (box : Area) → IsBoxOf (plain a) box → IsBoxOf a box
  from_plain_box = other_box (plain a) a.head.least_out a.head.least_in a.head.equal

  pub plain_inside : (box : Area) (t : TimingRecord) → InBox a box t → InBox (plain a) box t
  plain_inside = other_inside a (number 0) (number 0) false

  pub from_plain_inside : (box : Area) (t : TimingRecord) → InBox (plain a) box t → InBox a box t
  from_plain_inside = other_inside (plain a) a.head.least_out a.head.least_in a.head.equal

  pub plain_has : (n : Name) → NamesNoBand n → HasRow a n → HasRow (plain a) n
  plain_has = other_has a (number 0) (number 0) false

  pub from_plain_has : (n : Name) → NamesNoBand n → HasRow (plain a) n → HasRow a n
  from_plain_has = other_has (plain a) a.head.least_out a.head.least_in a.head.equal

  pub plain_root : (box : Area) → IsRoot a box → IsRoot (plain a) box
  plain_root box r = record { loops_count = r.loops_count; turns_count = r.turns_count; loops = r.loops; turns = r.turns }

-- ---- the artery
module _ (a : Street) (h : IsStreet a) where
  red_plain : (d : Dir) (i : ℕ) → HasSignal a i → 1 ≤ red_parts (plain a) d i
  red_plain Outbound i s = h.red Outbound i s
  red_plain Inbound i s = h.red Inbound i s

  green_plain : (d : Dir) (i : ℕ) → HasSignal a i → red_parts (plain a) d i < a.head.parts
  green_plain Outbound i s = h.green Outbound i s
  green_plain Inbound i s = h.green Inbound i s

  least_plain : (d : Dir) (i : ℕ) → HasLink a i → number 0 <ℚ (speed (plain a) d i).least
  least_plain Outbound i k = h.speed_least Outbound i k
  least_plain Inbound i k = h.speed_least Inbound i k

  most_plain : (d : Dir) (i : ℕ) → HasLink a i → number 0 <ℚ (speed (plain a) d i).most
  most_plain Outbound i k = h.speed_most Outbound i k
  most_plain Inbound i k = h.speed_most Inbound i k

  pub plain_street : IsStreet (plain a)
  plain_street = record {
    signals = h.signals;
    red = red_plain;
    green = green_plain;
    cycle_least = h.cycle_least;
    cycle_most = h.cycle_most;
    speed_least = least_plain;
    speed_most = most_plain;
  }

-- ---- rows
module _ (a : Street) (box : Area) where
  pub same_form : (n : Name) → NamesNoBand n → form_of (plain a) box n ≡ form_of a box n
  same_form (WaitRow d i) m = absurd m
  same_form (FastRow Outbound i) m = refl
  same_form (FastRow Inbound i) m = refl
  same_form (SlowRow Outbound i) m = refl
  same_form (SlowRow Inbound i) m = refl
  same_form (RiseRow Outbound i) m = refl
  same_form (RiseRow Inbound i) m = refl
  same_form (DropRow Outbound i) m = refl
  same_form (DropRow Inbound i) m = refl
  same_form (CycleLowRow i) m = refl
  same_form (CycleHighRow i) m = refl
  same_form (RatioRow i) m = absurd m
  same_form (LoopLowRow i) m = refl
  same_form (LoopHighRow i) m = refl
  same_form (TurnLowRow i) m = refl
  same_form (TurnHighRow i) m = refl
  same_form (LeastRow d i) m = absurd m
  same_form (EqualLowRow i) m = absurd m
  same_form (EqualHighRow i) m = absurd m
  same_form NoRow m = absurd m
