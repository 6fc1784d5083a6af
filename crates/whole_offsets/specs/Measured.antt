-- The base on which a plan is measured, and the plan that was.
use Rattle.std.specs.Prelude.{ℕ, List, Option, None, Some}
use Rattle.progression.specs.Street.{Street}
use Rattle.progression.specs.BaseRecord.{BaseRecord}
use Rattle.progression.specs.TimingRecord.{TimingRecord}
use Rattle.band_measure.specs.declared.pair.Widest.{Widest}
use Rattle.second_plan.specs.Grid.{on_grid}
use Rattle.whole_offsets.specs.Offsets.{IsPlanOf}
use Rattle.whole_offsets.specs.Score.{AreWithoutLine}

-- the base on another grid with other offsets; its runs are what they were
abbrev pub on_offsets : ℕ → ℕ → List ℕ → BaseRecord → BaseRecord
on_offsets grid unit offsets b = on_grid grid unit offsets b.run_out b.run_in b

-- the plan of these offsets, and how many directions it has no line in
pub record IsMeasuredFor (a : Street) (b : BaseRecord) (k : ℕ) (offsets : List ℕ) (p : TimingRecord) (n : ℕ) : Type 0 where
  pub plan : IsPlanOf a b k offsets p
  pub lineless : AreWithoutLine a p n

abbrev pub or_nothing : Option Widest → Widest
or_nothing None = record { first = 0; band = 0 }
or_nothing (Some w) = w

abbrev pub lacking : Option Widest → ℕ
lacking None = 1
lacking (Some w) = 0
