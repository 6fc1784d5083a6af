-- The same timing on a finer grid, and the law that it is good there exactly where it is good here.
use Rattle.std.specs.Prelude.{ℕ, ◌*◌, ◌≤◌, map, pos, ◌*ℤ◌, ◌↔◌}
use Rattle.progression.specs.Street.{Street}
use Rattle.progression.specs.BaseRecord.{BaseRecord}
use Rattle.progression.specs.TimingRecord.{TimingRecord, base, banded}
use Rattle.progression.specs.Good.{Good}
use Rattle.artery_model.specs.Valid.{IsValid}

-- on a grid that is m times as fine
abbrev pub finer_base : ℕ → BaseRecord → BaseRecord
finer_base m b = record {
  grid = b.grid * m;
  unit = b.unit * m;
  patterns = b.patterns;
  reds = map (λ z. z *ℤ pos m) b.reds;
  run_out = map (λ n. n * m) b.run_out;
  run_in = map (λ n. n * m) b.run_in;
}

abbrev pub finer : ℕ → TimingRecord → TimingRecord
finer m t = banded (t.first_out *ℤ pos m) (t.band_out * m) (t.first_in *ℤ pos m) (t.band_in * m) (finer_base m (base t))

-- so a test at whole ticks tests every moment
abbrev pub FinerGrids : Type 0
FinerGrids = (a : Street) (t : TimingRecord) (m : ℕ) → IsValid a → 2 ≤ t.unit → 1 ≤ m → Good a t ↔ Good a (finer m t)
