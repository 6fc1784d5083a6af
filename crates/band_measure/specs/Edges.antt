-- Where a line crosses the signals, counted from its first crossing, and the firsts at which it leaves a signal's red.
use Rattle.std.specs.Prelude.{ℕ, ℤ, pos, ◌+ℤ◌}
use Rattle.progression.specs.Street.{Street, count}
use Rattle.progression.specs.BaseRecord.{BaseRecord, cycle}
use Rattle.progression.specs.Green.{since, red_start, red_ticks}
use Rattle.progression.specs.Lines.{stop, crossing_from}
use Rattle.progression.specs.declared.parts.Dir.{Dir}

-- how much later than the first signal of its way a line crosses the j-th
abbrev pub way : Street → BaseRecord → Dir → ℕ → ℤ
way a b d j = crossing_from a b d (pos 0) j

-- where the j-th signal's red ends
abbrev pub red_end : Street → BaseRecord → Dir → ℕ → ℤ
red_end a b d j = let i = stop d (count a) j in red_start a b d i +ℤ pos (red_ticks a b d i)

-- the first, from 0 to cycle - 1, with which a line crosses the j-th signal as its red ends
abbrev pub edge : Street → BaseRecord → Dir → ℕ → ℕ
edge a b d j = since (cycle a b) (way a b d j) (red_end a b d j)
