-- A pair of a first line and a band on finer grids.
use Rattle.std.specs.Prelude.{ℕ, ◌*◌, ◌≤◌, ℤ, pos, ◌*ℤ◌, ◌↔◌}
use Rattle.progression.specs.Street.{Street}
use Rattle.progression.specs.BaseRecord.{BaseRecord}
use Rattle.progression.specs.Lines.{RunsOn}
use Rattle.progression.specs.declared.parts.Dir.{Dir}
use Rattle.artery_model.specs.Valid.{IsValid}
use Rattle.time_space.specs.Finer.{finer_base}

-- A pair runs exactly where m times it runs on the grid that is m times as fine.
abbrev pub FinerPairs : Type 0
FinerPairs = (a : Street) (b : BaseRecord) (d : Dir) (m : ℕ) (x : ℤ) (width : ℕ) → IsValid a → 2 ≤ b.unit → 1 ≤ m
    → RunsOn a b d x width ↔ RunsOn a (finer_base m b) d (x *ℤ pos m) (width * m)
