-- What the search knows of the bands on the lines that it has tried.
use Rattle.std.specs.Prelude.{ℕ, zero, suc, max, ◌+◌, ◌*◌, ◌<◌, ◌≤◌, ◌^◌, Option, None, Some, ℤ, unsigned_abs}
use Rattle.progression.specs.Street.{Street}
use Rattle.progression.specs.TimingRecord.{TimingRecord, base}
use Rattle.mirror_theory.specs.Runs.{Runs, IsWidest, wait_in_phase, taken, candidate}
use Rattle.progression.specs.BaseRecord.{cycle}
use Rattle.half_integer.specs.declared.search.OutboundBand.{OutboundBand}

-- how much the fullest of the first k signals takes
abbrev pub fullest : Street → TimingRecord → ℤ → ℕ → ℕ
fullest a t x zero = 0
fullest a t x (suc k) = max (fullest a t x k) (taken a t x (suc k))

-- a band that runs on this line, and the widest one
pub record IsWidthOn (a : Street) (t : TimingRecord) (first : ℤ) (band : ℕ) : Type 0 where
  pub runs : Runs a t first band
  pub most : (other : ℕ) → Runs a t first other → other ≤ band

-- one more than the width of the best band, and 0 where there is none
abbrev pub reach : Option OutboundBand → ℕ
reach None = 0
reach (Some band) = band.width + 1

-- what runs on this line is no wider than the best
abbrev pub IsTried : Street → TimingRecord → Option OutboundBand → ℤ → Type 0
IsTried a t best first = (band : ℕ) → Runs a t first band → band < reach best

-- the best band runs
abbrev pub IsRun : Street → TimingRecord → Option OutboundBand → Type 0
IsRun a t None = Unit {0}
IsRun a t (Some band) = Runs a t band.first band.width

-- both candidates of a signal are tried
pub record IsTriedAt (a : Street) (t : TimingRecord) (best : Option OutboundBand) (i : ℕ) : Type 0 where
  pub in_phase : IsTried a t best (candidate a t i 0)
  pub half_later : IsTried a t best (candidate a t i (cycle a (base t)))

-- and those of the first signals
pub record IsTriedTo (a : Street) (t : TimingRecord) (best : Option OutboundBand) (last : ℕ) : Type 0 where
  pub each : (i : ℕ) → 1 ≤ i → i ≤ last → IsTriedAt a t best i

-- its numbers are far from those that no sum leaves
abbrev pub IsBandWithin : Option OutboundBand → Type 0
IsBandWithin None = Unit {0}
IsBandWithin (Some band) = unsigned_abs band.first ≤ 26 * 2 ^ 94

-- no band on any line is wider, and the red of signal 1 is in phase 0
pub record IsBestBand (a : Street) (t : TimingRecord) (band : OutboundBand) : Type 0 where
  pub runs : Runs a t band.first band.width
  pub widest : IsWidest a t band.width
  pub near : unsigned_abs band.first ≤ 2 ^ 99
  pub upright : wait_in_phase a t band.first 1 0 ≤ wait_in_phase a t band.first 1 (cycle a (base t))
