-- Where a band isn't green: the signal, and the first tick there.
use Rattle.std.specs.Prelude.{◌≡◌, ℕ, ◌<◌, ℤ, pos, ◌+ℤ◌}
use Rattle.progression.specs.Street.{Street, count}
use Rattle.progression.specs.TimingRecord.{TimingRecord, base, band}
use Rattle.progression.specs.BaseRecord.{cycle}
use Rattle.progression.specs.Green.{red_start, red_ticks}
use Rattle.progression.specs.Lines.{stop, crossing, IsGreenAt}
use Rattle.time_space.specs.FirstRed.{IsFirstRed}
use Rattle.progression.specs.declared.parts.Dir.{Dir}

-- at the j-th signal in travel order the first tick that isn't green comes so long after the band's first line
abbrev pub IsBlockedAt : Street → TimingRecord → Dir → ℕ → ℕ → Type 0
IsBlockedAt a t d j after = let i = stop d (count a) j in
    IsFirstRed (cycle a (base t)) (red_start a (base t) d i) (red_ticks a (base t) d i) (crossing a t d j) (band t d) after

-- the signal, and the first tick of the band there that isn't green
pub record IsBlocked (a : Street) (t : TimingRecord) (d : Dir) (j signal : ℕ) (tick : ℤ) : Type 0 where
  pub after : ℕ
  pub signal_is : signal ≡ stop d (count a) j
  pub tick_is : tick ≡ crossing a t d j +ℤ pos after
  pub blocked : IsBlockedAt a t d j after

-- at this signal the band isn't green, first at this tick
pub record IsBlockedSomewhere (a : Street) (t : TimingRecord) (d : Dir) (signal : ℕ) (tick : ℤ) : Type 0 where
  pub at : ℕ
  pub on_way : at < count a
  pub here : IsBlocked a t d at signal tick

-- and at each signal before it in travel order the band is green
pub record IsFirstBlocked (a : Street) (t : TimingRecord) (d : Dir) (signal : ℕ) (tick : ℤ) : Type 0 where
  pub at : ℕ
  pub on_way : at < count a
  pub here : IsBlocked a t d at signal tick
  pub green_before : (k : ℕ) → k < at → IsGreenAt a t d k
