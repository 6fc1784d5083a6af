-- Progression lines: where the first line of each band crosses the signals, and that the whole band crosses them in green.
use Rattle.std.specs.Prelude.{ℕ, zero, suc, ◌+◌, ◌-◌, ◌*◌, ◌<◌, ℤ, pos, ◌+ℤ◌, ◌-ℤ◌}
use Rattle.progression.specs.Street.{Street, count, clearance}
use Rattle.progression.specs.BaseRecord.{BaseRecord, cycle, run}
use Rattle.progression.specs.TimingRecord.{TimingRecord, base, first, band}
use Rattle.progression.specs.Green.{BandIsGreen, red_start, red_ticks}
use Rattle.progression.specs.declared.parts.Dir.{Dir}
use Rattle.progression.specs.declared.parts.Dir.TheVariants.{Outbound, Inbound}

-- the j-th of n signals in travel order, from 0, and the link from it to the next (asked for j below n and below n - 1 alone,
-- where the differences are those of whole numbers)
abbrev pub stop : Dir → ℕ → ℕ → ℕ
stop Outbound n j = j + 1
stop Inbound n j = n - j

abbrev pub leg : Dir → ℕ → ℕ → ℕ
leg Outbound n j = j + 1
leg Inbound n j = n - 1 - j

-- from the j-th crossing to the next: the run, less the clearance at the next signal
abbrev pub advance : Street → BaseRecord → Dir → ℕ → ℤ
advance a b d j = pos (run b d (leg d (count a) j)) -ℤ pos (clearance a d (stop d (count a) (j + 1)) * b.unit)

-- where the line that crosses the first signal of its way at tick x crosses the j-th in travel order
abbrev pub crossing_from : Street → BaseRecord → Dir → ℤ → ℕ → ℤ
crossing_from a b d x zero = x
crossing_from a b d x (suc j) = crossing_from a b d x j +ℤ advance a b d j

-- the band that begins with this line is green at the j-th signal in travel order
abbrev pub IsGreenFrom : Street → BaseRecord → Dir → ℤ → ℕ → ℕ → Type 0
IsGreenFrom a b d x width j = let i = stop d (count a) j in
    BandIsGreen (cycle a b) (red_start a b d i) (red_ticks a b d i) (crossing_from a b d x j) width

-- a pair of a first line and a band runs: every line of the band crosses every signal in green
abbrev pub RunsOn : Street → BaseRecord → Dir → ℤ → ℕ → Type 0
RunsOn a b d x width = (j : ℕ) → j < count a → IsGreenFrom a b d x width j

-- where the direction's first line crosses the j-th signal in travel order
abbrev pub crossing : Street → TimingRecord → Dir → ℕ → ℤ
crossing a t d j = crossing_from a (base t) d (first t d) j

-- where it crosses signal i
abbrev pub line_at : Street → TimingRecord → Dir → ℕ → ℤ
line_at a t Outbound i = crossing a t Outbound (i - 1)
line_at a t Inbound i = crossing a t Inbound (count a - i)

-- the band is green at the j-th signal in travel order
abbrev pub IsGreenAt : Street → TimingRecord → Dir → ℕ → Type 0
IsGreenAt a t d j = IsGreenFrom a (base t) d (first t d) (band t d) j

-- every line of the direction's band crosses every signal in green
abbrev pub IsGreenWay : Street → TimingRecord → Dir → Type 0
IsGreenWay a t d = RunsOn a (base t) d (first t d) (band t d)
