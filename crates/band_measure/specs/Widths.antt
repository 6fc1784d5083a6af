-- How wide a band can be whose first line is given: at one signal, and at all.
use Rattle.std.specs.Prelude.{ℕ, ◌≤◌, ℤ}
use Rattle.progression.specs.Street.{Street, count}
use Rattle.progression.specs.BaseRecord.{BaseRecord, cycle}
use Rattle.progression.specs.Green.{BandIsGreen, red_start, red_ticks}
use Rattle.progression.specs.Lines.{stop, crossing_from, RunsOn}
use Rattle.progression.specs.declared.parts.Dir.{Dir}

-- the widest band at one signal whose first line crosses it at x
pub record IsWidestGreen (cycle : ℕ) (start : ℤ) (red : ℕ) (x : ℤ) (band : ℕ) : Type 0 where
  pub green : BandIsGreen cycle start red x band
  pub most : (b : ℕ) → BandIsGreen cycle start red x b → b ≤ band

-- the widest band at the j-th signal whose first line starts at x
abbrev pub IsWidestAt : Street → BaseRecord → Dir → ℤ → ℕ → ℕ → Type 0
IsWidestAt a t d x j band = let i = stop d (count a) j in
    IsWidestGreen (cycle a t) (red_start a t d i) (red_ticks a t d i) (crossing_from a t d x j) band

-- the widest band whose first line starts at x
pub record IsWidestFrom (a : Street) (t : BaseRecord) (d : Dir) (x : ℤ) (band : ℕ) : Type 0 where
  pub runs : RunsOn a t d x band
  pub most : (b : ℕ) → RunsOn a t d x b → b ≤ band
