-- Reading the text of a timing from its first line on, and the lines of its numbers wherever they begin.
use Rattle.std.specs.Prelude.{ℕ, ◌+◌, ◌-◌, ◌^◌, List, length, pos, Result, Ok, slice_index}
use Rattle.progression.specs.BaseRecord.{BaseRecord}
use Rattle.progression.specs.TimingRecord.{TimingRecord, banded}
use Rattle.artery_model.specs.Bounds.{least_signals, most_signals}
use Rattle.time_space.specs.Timing.{base_of}
use Rattle.plan_text.specs.declared.fault.BadText.{BadText}
use Rattle.plan_text.specs.declared.lines.NumberLine.{NumberLine}
use Rattle.plan_text.specs.Spelling.{head_line, grid_key, unit_key, pattern_key, red_key, run_out_key, run_in_key, first_key, band_key, end_line}
use Rattle.plan_text.specs.Lines.{◌>>=◌, fixed_at, nothing_at, numbers_at}

-- so many numbers from least on
abbrev pub place_of : ℕ → ℕ → ℕ → NumberLine
place_of line count least = record { line = line; fewest = count; most = count; least = least; greatest = 2 ^ 80 - 1 }

-- 2 to 24 patterns of 1 to 4
abbrev pub pattern_place : ℕ → NumberLine
pattern_place line = record { line = line; fewest = least_signals; most = most_signals; least = 1; greatest = 4 }

-- two lines from this one on: grid and unit
unfoldable pub scale_at : ℕ → List ℕ → Result (ℕ × ℕ × List ℕ) BadText
scale_at line bytes = do
  grid ← numbers_at grid_key (place_of line 1 1) bytes
  unit ← numbers_at unit_key (place_of (line + 1) 1 2) grid.1
  Ok (slice_index grid.0 0, slice_index unit.0 0, unit.1)

-- two lines: patterns and reds
unfoldable pub signals_at : ℕ → List ℕ → Result (List ℕ × List ℕ × List ℕ) BadText
signals_at line bytes = do
  patterns ← numbers_at pattern_key (pattern_place line) bytes
  reds ← numbers_at red_key (place_of (line + 1) (length patterns.0) 0) patterns.1
  Ok (patterns.0, reds.0, reds.1)

-- two lines: a number for each of so many links, outbound and inbound, each line with its key
unfoldable pub both_ways_at : List ℕ → List ℕ → ℕ → ℕ → List ℕ → Result (List ℕ × List ℕ × List ℕ) BadText
both_ways_at out_key in_key line links bytes = do
  outbound ← numbers_at out_key (place_of line links 0) bytes
  inbound ← numbers_at in_key (place_of (line + 1) links 0) outbound.1
  Ok (outbound.0, inbound.0, inbound.1)

-- a line of two numbers
unfoldable pub pair_at : List ℕ → ℕ → List ℕ → Result (ℕ × ℕ × List ℕ) BadText
pair_at key line bytes = do
  pair ← numbers_at key (place_of line 2 0) bytes
  Ok (slice_index pair.0 0, slice_index pair.0 1, pair.1)

-- the six lines of a base, the first of which has this number
unfoldable pub base_at : ℕ → List ℕ → Result (BaseRecord × List ℕ) BadText
base_at line bytes = do
  scale ← scale_at line bytes
  signals ← signals_at (line + 2) scale.2
  runs ← both_ways_at run_out_key run_in_key (line + 4) (length signals.0 - 1) signals.2
  Ok (base_of scale.0 scale.1 signals.0 signals.1 runs.0 runs.1, runs.2)

-- the eight lines of a timing's numbers, the first of which has this number
unfoldable pub timing_at : ℕ → List ℕ → Result (TimingRecord × List ℕ) BadText
timing_at line bytes = do
  base ← base_at line bytes
  first ← pair_at first_key (line + 6) base.1
  band ← pair_at band_key (line + 7) first.2
  Ok (banded (pos first.0) band.0 (pos first.1) band.1 base.0, band.2)

unfoldable pub timing_of : List ℕ → Result TimingRecord BadText
timing_of bytes = do
  rest ← fixed_at 1 head_line bytes
  timing ← timing_at 2 rest
  more ← fixed_at 10 end_line timing.1
  nothing ← nothing_at 11 more
  Ok timing.0
