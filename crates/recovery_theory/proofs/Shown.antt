-- The point of a vertex's timing has the vertex's value in every column.
use Rattle.std.proofs.Common.{◌≡◌, ℕ, pos, ◌+◌, ◌*◌, ◌<◌, List, [], ◌∷◌, length, refl, sym, ◌∙◌, ap, ap₂, subst, arith, unsigned_abs, mul-pos, IsTrue}
use Rattle.rational_theory.specs.Rational.{ℚ, ◌+ℚ◌, ◌*ℚ◌, ◌≤ℚ◌}
use Rattle.rational_theory.specs.Floor.{floor_ℚ}
use Rattle.rational_theory.specs.Rows.{dot, IsMet}
use Rattle.progression.specs.Street.{Street, count, allows, HasSignal, red_parts}
use Rattle.progression.specs.TimingRecord.{TimingRecord, base}
use Rattle.progression.specs.BaseRecord.{pattern_of}
use Rattle.progression.specs.Columns.{Column, BandOf, Frequency, WaitOf, RunOf, ShiftOf, shift, wait, ticks, pattern_shift}
use Rattle.progression.specs.declared.parts.Dir.{Dir}
use Rattle.progression.specs.declared.parts.Dir.TheVariants.{Outbound, Inbound}
use Rattle.linear_theory.specs.Places.{place, value_at}
use Rattle.linear_theory.proofs.Places.{IsColumn}
use Rattle.linear_theory.proofs.Points.{share, place_below}
use Rattle.linear_theory.specs.Shifts.{shifts_of, shift_at}
use Rattle.linear_theory.specs.Boxes.{Area}
use Rattle.linear_theory.specs.Rows.{Entry, Form, line}
use Rattle.linear_theory.proofs.SparseSums.{InOrder, total, shares_of, line_total}
use Rattle.linear_theory.specs.Counts.{IsStreet}
use Rattle.linear_theory.proofs.Ranges.{parts_above, some_signal}
use Rattle.linear_theory.proofs.RankedShifts.{Has}
use Rattle.recovery_theory.specs.Ticks.{in_parts, unit_of, ticks_of}
use Rattle.recovery_theory.specs.Placing.{shift_parts, pattern_at, timing_of}
use Rattle.recovery_theory.specs.Vertices.{IsLongVertex, IsWhole}
use Rattle.recovery_theory.proofs.Multiples.{unit_least, unit_multiple}
use Rattle.recovery_theory.proofs.Wholes.{floor_whole, ticks_from_parts}
use Rattle.recovery_theory.proofs.Placed.{run_is, pattern_is}
use Rattle.recovery_theory.proofs.Waits.{turned_mod, out_turned, in_turned}
use Rattle.recovery_theory.proofs.Fitting.{fitting_allowed, fitting_shift}
use Rattle.recovery_theory.proofs.Ticked.{num_whole, den_whole, some_cycle, column_is, block_ticks, wait_less}

module _ (a : Street) (box : Area) (x : List ℚ) (h : IsStreet a) (v : IsLongVertex a box x) (w : IsWhole a x) where
  abbrev pub timing : TimingRecord
  timing = timing_of a x

  -- ---- shifts
  -- the shift in whole parts is that of its rank
  shift_parts_is : (i : ℕ) (s : HasSignal a i) → shift_parts a x i ≡ shift_at a i (w.shifts i s).rank
  shift_parts_is i s =
      ap (λ y. unsigned_abs (floor_ℚ y)) (w.shifts i s).is ∙ ap unsigned_abs (floor_whole (pos (shift_at a i (w.shifts i s).rank)))

  ranked : (i : ℕ) (s : HasSignal a i) → Has (shift_parts a x i) (shifts_of a i)
  ranked i s = record { rank = (w.shifts i s).rank; there = (w.shifts i s).there; is = sym (shift_parts_is i s) }

  pattern_taken : (i : ℕ) → HasSignal a i → pattern_of (base timing) i ≡ pattern_at a x i
  pattern_taken i s = pattern_is a (unit_of a x) (ticks_of a x) (pattern_at a x) i s

  -- each pattern is allowed, and has the vertex's shift
  pub allowed : (i : ℕ) → HasSignal a i → IsTrue (allows a i (pattern_of (base timing) i))
  unfolding pattern_at
  allowed i s = subst (λ p. IsTrue (allows a i p)) (sym (pattern_taken i s)) (fitting_allowed a i (shift_parts a x i) (ranked i s))

  shift_is : (i : ℕ) (s : HasSignal a i) → shift a (base timing) i ≡ shift_at a i (w.shifts i s).rank
  unfolding pattern_at
  shift_is i s = ap (pattern_shift a i) (pattern_taken i s) ∙ fitting_shift a i (shift_parts a x i) (ranked i s) ∙ shift_parts_is i s

  shift_ticks : (i : ℕ) → HasSignal a i → ticks_of a x (ShiftOf i) ≡ shift a (base timing) i * unit_of a x
  shift_ticks i s =
      let j = place (count a) (ShiftOf i) in
      let below = place_below (count a) (ShiftOf i) (some_signal a h) s in
      let l : place (count a) (ShiftOf i) < length x = omega (arith, below, v.columns) in
      let k = shift_at a i (w.shifts i s).rank in
      let m = unit_multiple a x j l in
      let top : unsigned_abs (in_parts a x j).num ≡ k = ap (λ (y : ℚ). unsigned_abs y.num) (w.shifts i s).is ∙ ap unsigned_abs (num_whole (pos k)) in
      let bottom : (in_parts a x j).den ≡ 1 = ap (λ (y : ℚ). y.den) (w.shifts i s).is ∙ den_whole (pos k) in
      let unit : unit_of a x ≡ m.times = m.is ∙ ap (λ d. m.times * d) bottom ∙ omega arith in
      ticks_from_parts a x (parts_above a h) v.not_negative j l ∙ ap₂ (λ n u. n * u) top (sym unit) ∙ ap (λ n. n * unit_of a x) (sym (shift_is i s))

  -- ---- waits
  pub wait_is : (d : Dir) (i : ℕ) → HasSignal a i → wait a timing d i ≡ ticks_of a x (WaitOf d i)
  wait_is Outbound i s = turned_mod (out_turned a (unit_of a x) (ticks_of a x) (pattern_at a x) (some_cycle a box x h v) i s) (wait_less a box x h v Outbound i s)
  wait_is Inbound i s =
      turned_mod (in_turned a (unit_of a x) (ticks_of a x) (pattern_at a x) (some_cycle a box x h v) allowed shift_ticks (λ j k. block_ticks a box x h v j k (w.blocks j k)) i s)
      (wait_less a box x h v Inbound i s)

  -- ---- all columns
  ticks_are : (c : Column) → IsColumn (count a) c → ticks a timing c ≡ ticks_of a x c
  ticks_are (BandOf Outbound) k = refl
  ticks_are (BandOf Inbound) k = refl
  ticks_are Frequency k = refl
  ticks_are (WaitOf d i) k = wait_is d i k
  ticks_are (RunOf d i) k = run_is a (unit_of a x) (ticks_of a x) (pattern_at a x) d i k
  ticks_are (ShiftOf i) k = sym (shift_ticks i k)

  pub column_shown : (c : Column) → IsColumn (count a) c → value_at (count a) x c ≡ share a timing (ticks a timing c)
  column_shown c k = column_is a box x h v c k ∙ ap (λ n. share a timing n) (sym (ticks_are c k))

  -- ---- rows
  total_shown : (low : ℕ) (es : List Entry) → InOrder (count a) low es → total (count a) es x ≡ shares_of a timing es
  total_shown low [] r = refl
  total_shown low (e ∷ es) r = ap₂ (λ y z. e.1 *ℚ y +ℚ z) (column_shown e.0 r.1) (total_shown (place (count a) e.0 + 1) es r.2)

  -- the sum of a row at the vertex is that of the timing
  pub sum_shown : (f : Form) → InOrder (count a) 0 f.entries → dot (line a f).coefs x ≡ shares_of a timing f.entries
  sum_shown f r = line_total a f x (some_signal a h) r ∙ total_shown 0 f.entries r

  -- so the timing keeps what the row says
  pub row_shown : (f : Form) → InOrder (count a) 0 f.entries → IsMet x (line a f) → shares_of a timing f.entries ≤ℚ f.bound
  row_shown f r m = subst (λ y. y ≤ℚ f.bound) (sum_shown f r) m.met
