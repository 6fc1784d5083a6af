-- A timing's cycle and offsets in whole seconds.
use Rattle.std.specs.Prelude.{◌≡◌, ℕ, ◌-◌, ◌*◌, ◌%◌, ◌<◌, ◌≤◌, All, List, length, slice_index}
use Rattle.rational_theory.specs.Rational.{◌≤ℚ◌}
use Rattle.progression.specs.Street.{Street, count, HasSignal}
use Rattle.progression.specs.Speeds.{number}
use Rattle.progression.specs.BaseRecord.{BaseRecord, cycle, common_red}
use Rattle.progression.specs.Green.{since}
use Rattle.second_plan.specs.Nearest.{IsNearest, AnyNumber}

-- so many seconds are within the artery's limits of the cycle
pub record IsWholeCycle (a : Street) (k : ℕ) : Type 0 where
  pub least : a.head.cycle.least ≤ℚ number k
  pub most : number k ≤ℚ a.head.cycle.most

-- the whole cycle nearest to the timing's, which takes cycle / grid seconds
abbrev pub IsSeconds : Street → BaseRecord → ℕ → Type 0
IsSeconds a b k = IsNearest (IsWholeCycle a) (cycle a b) b.grid k

-- how many ticks after signal 1's red signal i's begins, from 0 to a cycle less 1
abbrev pub red_after : Street → BaseRecord → ℕ → ℕ
red_after a b i = since (cycle a b) (common_red b 1) (common_red b i)

-- the same share of a cycle of k seconds, rounded, and 0 where that is a whole cycle
pub record IsOffset (a : Street) (b : BaseRecord) (k i offset : ℕ) : Type 0 where
  pub rounded : ℕ
  pub near : IsNearest AnyNumber (k * red_after a b i) (cycle a b) rounded
  pub within : offset ≡ rounded % k

-- one for each signal, from the first on
pub record AreOffsets (a : Street) (b : BaseRecord) (k : ℕ) (offsets : List ℕ) : Type 0 where
  pub each_has : length offsets ≡ count a
  pub each : (i : ℕ) → HasSignal a i → IsOffset a b k i (slice_index offsets (i - 1))

-- a cycle of at most an hour, and offsets below it
pub record IsRounded (k : ℕ) (offsets : List ℕ) : Type 0 where
  pub some : 1 ≤ k
  pub small : k ≤ 3600
  pub below : All (λ n. n < k) offsets
