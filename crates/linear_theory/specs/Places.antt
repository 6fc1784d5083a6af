-- The columns' numbers, from 0: bands, frequency, outbound waits, inbound waits, outbound runs, inbound runs, shifts.
use Rattle.std.specs.Prelude.{ℕ, ◌+◌, ◌*◌, List, slice_index_or}
use Rattle.rational_theory.specs.Rational.{ℚ}
use Rattle.progression.specs.Speeds.{number}
use Rattle.progression.specs.Columns.{Column, BandOf, Frequency, WaitOf, RunOf, ShiftOf}
use Rattle.progression.specs.declared.parts.Dir.TheVariants.{Outbound, Inbound}

-- the place of a column among those of n signals
abbrev pub place : ℕ → Column → ℕ
place n (BandOf Outbound) = 0
place n (BandOf Inbound) = 1
place n Frequency = 2
place n (WaitOf Outbound i) = 2 + i
place n (WaitOf Inbound i) = 2 + n + i
place n (RunOf Outbound i) = 2 + 2 * n + i
place n (RunOf Inbound i) = 1 + 3 * n + i
place n (ShiftOf i) = 4 * n + i

-- how many columns n signals have
abbrev pub width : ℕ → ℕ
width n = 5 * n + 1

-- what a point of n signals has in a column
abbrev pub value_at : ℕ → List ℚ → Column → ℚ
value_at n x c = slice_index_or x (place n c) (number 0)
