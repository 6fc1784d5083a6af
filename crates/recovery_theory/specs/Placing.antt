-- The timing of a point, signal by signal: reds and first crossings are placed one after another by the waits.
use Rattle.std.specs.Prelude.{ℕ, ◌-◌, ◌==◌, ◌&&◌, Bool, List, [], ◌∷◌, map, pos, ℤ, ◌+ℤ◌, ◌-ℤ◌, unsigned_abs, if◌then◌else◌}
use Rattle.rational_theory.specs.Rational.{ℚ}
use Rattle.rational_theory.specs.Floor.{floor_ℚ}
use Rattle.progression.specs.Street.{Street, count, allows}
use Rattle.progression.specs.TimingRecord.{TimingRecord, base}
use Rattle.progression.specs.BaseRecord.{cycle}
use Rattle.progression.specs.Green.{mod_ℤ, red_start, red_ticks}
use Rattle.progression.specs.Lines.{line_at}
use Rattle.progression.specs.Columns.{Column, BandOf, Frequency, WaitOf, RunOf, ShiftOf, numbered, pattern_shift}
use Rattle.progression.specs.declared.parts.Dir.TheVariants.{Outbound, Inbound}
use Rattle.linear_theory.specs.Places.{place}
use Rattle.recovery_theory.specs.Ticks.{in_parts, unit_of, ticks_of}

-- ---- patterns
-- the pattern is allowed and has the shift
abbrev pub fits_shift : Street → ℕ → ℕ → ℕ → Bool
fits_shift a i parts p = allows a i p && (pattern_shift a i p == parts)

-- the least of them
abbrev pub pattern_with : Street → ℕ → ℕ → ℕ
pattern_with a i parts =
    if fits_shift a i parts 1 then 1 else (if fits_shift a i parts 2 then 2 else (if fits_shift a i parts 3 then 3 else 4))

-- the point's shift of signal i, in whole parts
abbrev pub shift_parts : Street → List ℚ → ℕ → ℕ
shift_parts a x i = unsigned_abs (floor_ℚ (in_parts a x (place (count a) (ShiftOf i))))

unfoldable pub pattern_at : Street → List ℚ → ℕ → ℕ
pattern_at a x i = pattern_with a i (shift_parts a x i)

-- ---- places
-- where the outbound red of signal i ends
abbrev pub red_end : Street → TimingRecord → ℕ → ℤ
red_end a t i = red_start a (base t) Outbound i +ℤ pos (red_ticks a (base t) Outbound i)

module _ (a : Street) (unit : ℕ) (ticks : Column → ℕ) (pattern : ℕ → ℕ) where
  -- the timing without its reds and first crossings: as if each common red began at 0
  abbrev pub unplaced : TimingRecord
  unplaced = record {
    grid = ticks Frequency;
    unit = unit;
    patterns = numbered (count a) 1 pattern;
    reds = [];
    run_out = numbered (count a - 1) 1 (λ i. ticks (RunOf Outbound i));
    run_in = numbered (count a - 1) 1 (λ i. ticks (RunOf Inbound i));
    first_out = pos 0;
    first_in = pos 0;
    band_out = ticks (BandOf Outbound);
    band_in = ticks (BandOf Inbound);
  }

  -- signal 1's common red begins at 0, and the outbound band crosses it a wait after the red's end
  abbrev pub first_out_of : ℕ
  first_out_of = mod_ℤ (red_end a unplaced 1 +ℤ pos (ticks (WaitOf Outbound 1))) (cycle a (base unplaced))

  abbrev pub with_out : TimingRecord
  with_out = record unplaced { first_out = pos first_out_of }

  -- each further red ends a wait before the outbound band crosses it
  abbrev pub red_of : ℕ → ℕ
  red_of i = mod_ℤ (line_at a with_out Outbound i -ℤ pos (ticks (WaitOf Outbound i)) -ℤ red_end a with_out i) (cycle a (base with_out))

  abbrev pub reds_of : List ℕ
  reds_of = 0 ∷ numbered (count a - 1) 2 red_of

  abbrev pub with_reds : TimingRecord
  with_reds = record with_out { reds = map pos reds_of }

  -- the inbound band ends a wait before the red of the last signal
  abbrev pub first_in_of : ℕ
  first_in_of = mod_ℤ (red_start a (base with_reds) Inbound (count a) -ℤ pos (ticks (WaitOf Inbound (count a))) -ℤ pos (ticks (BandOf Inbound))) (cycle a (base with_reds))

  abbrev pub placed : TimingRecord
  placed = record with_reds { first_in = pos first_in_of }

-- the timing of a point
abbrev pub timing_of : Street → List ℚ → TimingRecord
timing_of a x = placed a (unit_of a x) (ticks_of a x) (pattern_at a x)
