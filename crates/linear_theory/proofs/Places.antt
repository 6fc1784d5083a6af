-- Lemmas on the definitions of `Places`.
use Rattle.std.specs.Prelude.{ℕ, ◌<◌, ◌≤◌}
use Rattle.progression.specs.Columns.{Column, BandOf, Frequency, WaitOf, RunOf, ShiftOf}

-- the column's signal or link is there
abbrev pub IsColumn : ℕ → Column → Type 0
IsColumn n (BandOf d) = Unit {0}
IsColumn n Frequency = Unit {0}
IsColumn n (WaitOf d i) = (1 ≤ i) × (i ≤ n)
IsColumn n (RunOf d i) = (1 ≤ i) × (i < n)
IsColumn n (ShiftOf i) = (1 ≤ i) × (i ≤ n)
