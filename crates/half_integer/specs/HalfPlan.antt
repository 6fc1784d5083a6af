-- The timing that is built for a line and a band: its base number by number, and the two lines.
use Rattle.std.specs.Prelude.{ℕ, ◌+◌, ◌*◌, map, ℤ, pos, ◌+ℤ◌}
use Rattle.progression.specs.Street.{Street, count}
use Rattle.progression.specs.TimingRecord.{TimingRecord, base, banded}
use Rattle.progression.specs.BaseRecord.{BaseRecord, cycle}
use Rattle.progression.specs.Green.{since, ahead, red_ticks}
use Rattle.progression.specs.Columns.{numbered}
use Rattle.progression.specs.declared.parts.Dir.TheVariants.{Outbound}
use Rattle.mirror_theory.specs.Runs.{far}
use Rattle.mirror_theory.specs.Built.{phase_of}

-- from 0 to the cycle of the doubled grid: where the common red of signal i begins
abbrev pub red_tick : Street → TimingRecord → ℤ → ℕ → ℕ
red_tick a t x i = since (cycle a (base t) + cycle a (base t)) (pos (red_ticks a (base t) Outbound i)) (pos (phase_of a t x i + ahead a (base t) Outbound i * 2))

-- and where the two lines begin
abbrev pub first_out_tick : Street → TimingRecord → ℤ → ℕ
first_out_tick a t x = since (cycle a (base t) + cycle a (base t)) (pos 0) x

abbrev pub first_in_tick : Street → TimingRecord → ℤ → ℕ → ℕ
first_in_tick a t x b = since (cycle a (base t) + cycle a (base t)) (x +ℤ far a t (count a) +ℤ pos b) (pos 0)

abbrev pub half_base : Street → TimingRecord → ℤ → BaseRecord
half_base a t x = record {
  grid = t.grid * 2;
  unit = t.unit * 2;
  patterns = t.patterns;
  reds = map pos (numbered (count a) 1 (red_tick a t x));
  run_out = map (λ n. n * 2) t.run_out;
  run_in = map (λ n. n * 2) t.run_in;
}

abbrev pub half_plan : Street → TimingRecord → ℤ → ℕ → TimingRecord
half_plan a t x b = banded (pos (first_out_tick a t x)) b (pos (first_in_tick a t x b)) b (half_base a t x)
