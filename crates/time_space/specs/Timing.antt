-- The bases and the timing records that the program holds: whole numbers below 2 ^ 80 from 0 on, for 2 to 24 signals.
use Rattle.std.specs.Prelude.{◌≡◌, ℕ, ◌+◌, ◌<◌, ◌≤◌, ◌^◌, List, length, All, pos, map}
use Rattle.progression.specs.Street.{Street, count}
use Rattle.progression.specs.BaseRecord.{BaseRecord}
use Rattle.progression.specs.TimingRecord.{TimingRecord, banded}
use Rattle.artery_model.specs.Bounds.{least_signals, most_signals}

pub record AreOfBase (grid unit : ℕ) (patterns reds run_out run_in : List ℕ) : Type 0 where
  pub grid_least : 1 ≤ grid
  pub grid_most : grid < 2 ^ 80
  pub unit_least : 2 ≤ unit
  pub unit_most : unit < 2 ^ 80
  pub few : least_signals ≤ length patterns
  pub many : length patterns ≤ most_signals
  pub reds_count : length reds ≡ length patterns
  pub run_out_count : length run_out + 1 ≡ length patterns
  pub run_in_count : length run_in + 1 ≡ length patterns
  pub patterns_each : All (λ p. (1 ≤ p) × (p ≤ 4)) patterns
  pub reds_each : All (λ n. n < 2 ^ 80) reds
  pub run_out_each : All (λ n. n < 2 ^ 80) run_out
  pub run_in_each : All (λ n. n < 2 ^ 80) run_in

-- the first line and the width of each band
pub record AreOfBands (first_out first_in band_out band_in : ℕ) : Type 0 where
  pub first_out_most : first_out < 2 ^ 80
  pub first_in_most : first_in < 2 ^ 80
  pub band_out_most : band_out < 2 ^ 80
  pub band_in_most : band_in < 2 ^ 80

pub record IsTiming (grid unit : ℕ) (patterns reds run_out run_in : List ℕ) (first_out first_in band_out band_in : ℕ) : Type 0 where
  pub base : AreOfBase grid unit patterns reds run_out run_in
  pub bands : AreOfBands first_out first_in band_out band_in

-- a base of as many signals as the artery has
abbrev pub IsFor : Street → BaseRecord → Type 0
IsFor a b = length b.patterns ≡ count a

-- the base of these numbers
abbrev pub base_of : ℕ → ℕ → List ℕ → List ℕ → List ℕ → List ℕ → BaseRecord
base_of grid unit patterns reds run_out run_in = record {
  grid = grid;
  unit = unit;
  patterns = patterns;
  reds = map pos reds;
  run_out = run_out;
  run_in = run_in;
}

-- the timing of these numbers
abbrev pub timing_of : ℕ → ℕ → List ℕ → List ℕ → List ℕ → List ℕ → ℕ → ℕ → ℕ → ℕ → TimingRecord
timing_of grid unit patterns reds run_out run_in first_out first_in band_out band_in =
    banded (pos first_out) band_out (pos first_in) band_in (base_of grid unit patterns reds run_out run_in)
