-- A timing as a point of linear programming: each column is a number of whole ticks over the cycle.
use Rattle.std.specs.Prelude.{ℕ, zero, suc, ◌+◌, ◌-◌, ◌*◌, ◌==◌, List, [], ◌∷◌, ◌++◌, map, pos, ◌+ℤ◌, ◌-ℤ◌, if◌then◌else◌}
use Rattle.rational_theory.specs.Rational.{ℚ, ◌/ℚ◌}
use Rattle.progression.specs.Street.{Street, count, signal_of}
use Rattle.progression.specs.Speeds.{number}
use Rattle.progression.specs.BaseRecord.{BaseRecord, cycle, pattern_of, run}
use Rattle.progression.specs.TimingRecord.{TimingRecord, base, band}
use Rattle.progression.specs.Green.{mod_ℤ, red_start, red_ticks}
use Rattle.progression.specs.Lines.{line_at}
use Rattle.progression.specs.declared.parts.Dir.{Dir}
use Rattle.progression.specs.declared.parts.Dir.TheVariants.{Outbound, Inbound}

-- From the start of the inbound red to the end of the outbound red, less the common red, in parts. The last case is pattern
-- 4: no signal allows a number that isn't from 1 to 4.
abbrev pub pattern_shift : Street → ℕ → ℕ → ℕ
pattern_shift a i p = let s = signal_of a i in
    if p == 1 then 0 else (if p == 2 then s.left_out + s.left_in else (if p == 3 then s.left_in else s.left_out))

abbrev pub shift : Street → BaseRecord → ℕ → ℕ
shift a b i = pattern_shift a i (pattern_of b i)

-- outbound from the end of the red to the band, inbound from the band to the next red
abbrev pub wait : Street → TimingRecord → Dir → ℕ → ℕ
wait a t Outbound i = mod_ℤ (line_at a t Outbound i -ℤ (red_start a (base t) Outbound i +ℤ pos (red_ticks a (base t) Outbound i))) (cycle a (base t))
wait a t Inbound i = mod_ℤ (red_start a (base t) Inbound i -ℤ line_at a t Inbound i -ℤ pos t.band_in) (cycle a (base t))

pub data Column : Type 0 where
  BandOf : Dir → Column
  Frequency : Column
  WaitOf : Dir → ℕ → Column
  RunOf : Dir → ℕ → Column
  ShiftOf : ℕ → Column

-- f i, f (i + 1) and so on: n of them
abbrev pub numbered : {X : Type 0} → ℕ → ℕ → (ℕ → X) → List X
numbered zero i f = []
numbered (suc n) i f = f i ∷ numbered n (i + 1) f

-- the columns of n signals, in order
abbrev pub columns : ℕ → List Column
columns n =
    BandOf Outbound ∷ BandOf Inbound ∷ Frequency
    ∷ (numbered n 1 (WaitOf Outbound) ++ (numbered n 1 (WaitOf Inbound)
    ++ (numbered (n - 1) 1 (RunOf Outbound) ++ (numbered (n - 1) 1 (RunOf Inbound) ++ numbered n 1 ShiftOf))))

abbrev pub ticks : Street → TimingRecord → Column → ℕ
ticks a t (BandOf d) = band t d
ticks a t Frequency = t.grid
ticks a t (WaitOf d i) = wait a t d i
ticks a t (RunOf d i) = run (base t) d i
ticks a t (ShiftOf i) = shift a (base t) i * t.unit

-- the point of a timing; the frequency is in cycles a second, all other columns are fractions of the cycle
abbrev pub point : Street → TimingRecord → List ℚ
point a t = map (λ c. number (ticks a t c) /ℚ number (cycle a (base t))) (columns (count a))
