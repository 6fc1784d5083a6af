-- A timing record: a base, and the first line and the width of a band in each direction.
use Rattle.std.specs.Prelude.{ℕ, List, ℤ}
use Rattle.progression.specs.BaseRecord.{BaseRecord}
use Rattle.progression.specs.declared.parts.Dir.{Dir}
use Rattle.progression.specs.declared.parts.Dir.TheVariants.{Outbound, Inbound}

pub record TimingRecord : Type 0 where
  pub grid : ℕ  -- the numbers of its base, one by one
  pub unit : ℕ
  pub patterns : List ℕ
  pub reds : List ℤ
  pub run_out : List ℕ
  pub run_in : List ℕ
  pub first_out : ℤ  -- where the first outbound line crosses signal 1
  pub first_in : ℤ  -- where the first inbound line crosses the last signal
  pub band_out : ℕ  -- the widths of the bands, in ticks
  pub band_in : ℕ

-- what no first line and no band is part of
abbrev pub base : TimingRecord → BaseRecord
base t = record { grid = t.grid; unit = t.unit; patterns = t.patterns; reds = t.reds; run_out = t.run_out; run_in = t.run_in }

-- the timing of a base with an outbound and an inbound pair of a first line and a band
abbrev pub banded : ℤ → ℕ → ℤ → ℕ → BaseRecord → TimingRecord
banded first_out band_out first_in band_in b = record {
  grid = b.grid;
  unit = b.unit;
  patterns = b.patterns;
  reds = b.reds;
  run_out = b.run_out;
  run_in = b.run_in;
  first_out = first_out;
  first_in = first_in;
  band_out = band_out;
  band_in = band_in;
}

abbrev pub first : TimingRecord → Dir → ℤ
first t Outbound = t.first_out
first t Inbound = t.first_in

abbrev pub band : TimingRecord → Dir → ℕ
band t Outbound = t.band_out
band t Inbound = t.band_in
