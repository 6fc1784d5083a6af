-- Equal bands of a timing whose offsets are free: what keeps a timing's numbers on a finer grid, and when its bands are equal and green.
use Rattle.std.specs.Prelude.{◌≡◌, ℕ, ◌+◌, ◌*◌, ◌≤◌, ◌⊎◌, length, ℤ, pos, ◌-ℤ◌}
use Rattle.progression.specs.Street.{Street, HasSignal, HasLink, clearance}
use Rattle.progression.specs.TimingRecord.{TimingRecord, base}
use Rattle.progression.specs.BaseRecord.{cycle, run}
use Rattle.progression.specs.Green.{since, red_start, red_ticks}
use Rattle.progression.specs.Lines.{IsGreenWay}
use Rattle.progression.specs.declared.parts.Dir.{Dir}
use Rattle.progression.specs.declared.parts.Dir.TheVariants.{Outbound, Inbound}
use Rattle.time_space.specs.Finer.{finer}

-- the signal's two reds are one interval
pub record IsOneRed (a : Street) (t : TimingRecord) (i : ℕ) : Type 0 where
  pub start : red_start a (base t) Outbound i ≡ red_start a (base t) Inbound i
  pub length : red_ticks a (base t) Outbound i ≡ red_ticks a (base t) Inbound i

-- on a link, a direction's run less the clearance at its end
abbrev pub travel : Street → TimingRecord → Dir → ℕ → ℤ
travel a t Outbound i = pos (run (base t) Outbound i) -ℤ pos (clearance a Outbound (i + 1) * t.unit)
travel a t Inbound i = pos (run (base t) Inbound i) -ℤ pos (clearance a Inbound i * t.unit)

-- each signal has one red for both directions, and both take the same time on each link
pub record IsEven (a : Street) (t : TimingRecord) : Type 0 where
  pub reds : (i : ℕ) → HasSignal a i → IsOneRed a t i
  pub links : (i : ℕ) → HasLink a i → travel a t Outbound i ≡ travel a t Inbound i

-- s has the numbers of t on a grid that is m times as fine, but for its reds, firsts and bands
pub record Keeps (t : TimingRecord) (m : ℕ) (s : TimingRecord) : Type 0 where
  pub grid : s.grid ≡ (finer m t).grid
  pub unit : s.unit ≡ (finer m t).unit
  pub patterns : s.patterns ≡ (finer m t).patterns
  pub run_out : s.run_out ≡ (finer m t).run_out
  pub run_in : s.run_in ≡ (finer m t).run_in
  pub reds : length s.reds ≡ length s.patterns

-- and its bands are equal and green
pub record HasEqualGreenBands (a : Street) (t : TimingRecord) (m : ℕ) (s : TimingRecord) : Type 0 where
  pub keeps : Keeps t m s
  pub equal : s.band_out ≡ s.band_in
  pub outbound : IsGreenWay a s Outbound
  pub inbound : IsGreenWay a s Inbound

-- a direction's red begins half of its length before x, or whole cycles from there
pub record IsCentred (a : Street) (s : TimingRecord) (d : Dir) (i : ℕ) (x : ℤ) : Type 0 where
  pub half : ℕ
  pub halved : half + half ≡ red_ticks a (base s) d i
  pub begins : since (cycle a (base s)) (red_start a (base s) d i) (x -ℤ pos half) ≡ 0

-- The widest equal bands: s has them on the doubled grid, the red of signal 1 is centred at 0 and each other red there or
-- half a cycle later (a cycle of s is two of t in ticks), and no offsets on any grid have wider ones.
pub record IsHalfCycleBest (a : Street) (t : TimingRecord) (s : TimingRecord) : Type 0 where
  pub has : HasEqualGreenBands a t 2 s
  pub first : (d : Dir) → IsCentred a s d 1 (pos 0)
  pub centred : (d : Dir) (i : ℕ) → HasSignal a i → IsCentred a s d i (pos 0) ⊎ IsCentred a s d i (pos (cycle a (base t)))
  pub widest : (m : ℕ) (other : TimingRecord) → 1 ≤ m → HasEqualGreenBands a t m other → other.band_out * 2 ≤ s.band_out * m

-- no offsets on any grid have equal bands
abbrev pub HasNone : Street → TimingRecord → Type 0
HasNone a t = (m : ℕ) (s : TimingRecord) → 1 ≤ m → ¬ HasEqualGreenBands a t m s
