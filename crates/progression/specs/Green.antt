-- Reds are open intervals that come again each cycle, greens are closed: the first tick of a red is green, and so is the tick at which it ends.
use Rattle.std.specs.Prelude.{ℕ, ◌-◌, ◌*◌, ◌%◌, ◌≤◌, ◌==◌, nat_le, ◌||◌, Bool, IsTrue, ℤ, pos, negsuc, ◌+ℤ◌, ◌-ℤ◌, if◌then◌else◌}
use Rattle.progression.specs.Street.{Street, red_parts, left_against}
use Rattle.progression.specs.BaseRecord.{BaseRecord, pattern_of, common_red}
use Rattle.progression.specs.declared.parts.Dir.{Dir}
use Rattle.progression.specs.declared.parts.Dir.TheVariants.{Outbound, Inbound}

-- the remainder of z by c, from 0 to c - 1; the cycles that it is asked for are above 0
abbrev pub mod_ℤ : ℤ → ℕ → ℕ
mod_ℤ (pos a) c = a % c
mod_ℤ (negsuc a) c = c - 1 - a % c

-- the ticks since the last start of a red, at this tick or before
abbrev pub since : ℕ → ℤ → ℤ → ℕ
since cycle start tick = mod_ℤ (tick -ℤ start) cycle

-- a red of this length that started so long ago only starts, or is over
abbrev pub is_open : ℕ → ℕ → Bool
is_open red r = (r == 0) || nat_le red r

abbrev pub is_green : ℕ → ℤ → ℕ → ℤ → Bool
is_green cycle start red tick = is_open red (since cycle start tick)

-- every tick from x to x + band is green
abbrev pub BandIsGreen : ℕ → ℤ → ℕ → ℤ → ℕ → Type 0
BandIsGreen cycle start red x band = (t : ℕ) → t ≤ band → IsTrue (is_green cycle start red (x +ℤ pos t))

-- whether the direction's red begins before the common red: the left turn against it lags
abbrev pub is_early : Dir → ℕ → Bool
is_early Outbound p = (p == 1) || (p == 4)
is_early Inbound p = (p == 2) || (p == 4)

-- how many ticks before the common red the direction's red begins
abbrev pub ahead : Street → BaseRecord → Dir → ℕ → ℕ
ahead a b d i = if is_early d (pattern_of b i) then left_against a d i * b.unit else 0

-- where the direction's red begins, and how many ticks long it is
abbrev pub red_start : Street → BaseRecord → Dir → ℕ → ℤ
red_start a b d i = common_red b i -ℤ pos (ahead a b d i)

abbrev pub red_ticks : Street → BaseRecord → Dir → ℕ → ℕ
red_ticks a b d i = red_parts a d i * b.unit
