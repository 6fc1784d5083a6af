-- What the lines on bounds and the warnings mean.
use Rattle.std.specs.Prelude.{◌≡◌, ◌↔◌, ℕ, ◌+◌, ◌-◌, ◌*◌, ◌<◌, ◌≤◌, ℤ, pos, List, [], Contains, ◌⊎◌, false}
use Rattle.std.specs.List.{flat_map}
use Rattle.rational_theory.specs.Rational.{ℚ, whole, over, ◌<ℚ◌}
use Rattle.progression.specs.Good.{Good}
use Rattle.progression.specs.Speeds.{run_low, run_high}
use Rattle.progression.specs.Street.{Street, count, red_parts, speed, HasSignal, HasLink}
use Rattle.progression.specs.TimingRecord.{TimingRecord, band}
use Rattle.progression.specs.BaseRecord.{cycle}
use Rattle.progression.specs.declared.parts.Dir.{Dir}
use Rattle.artery_model.specs.Valid.{IsValid}
use Rattle.street_words.specs.Streets.{name_of, green_parts}
use Rattle.street_words.specs.Bounds.{tightest}
use Rattle.street_words.specs.Warnings.{least_travel, most_travel, fastest, slowest, most_ticks, plain_name, warning_line, told, all_warnings, warning_lines}
use Rattle.street_words.specs.declared.warning.Warning.{Warning}
use Rattle.street_words.specs.declared.warning.Warning.TheVariants.{TakesLittle, TakesLong, TooFast, TooSlow, MostlyRed, AlikeNames, MayStarve, LongFractions}

-- no signal has less green, none before it as little, and no good timing has a wider band
pub record IsTightest (a : Street) (d : Dir) (i : ℕ) : Type 0 where
  pub there : HasSignal a i
  pub least : (j : ℕ) → HasSignal a j → green_parts a d i ≤ green_parts a d j
  pub first : (j : ℕ) → HasSignal a j → j < i → green_parts a d i < green_parts a d j
  pub bounds : (t : TimingRecord) → Good a t → band t d ≤ green_parts a d i * t.unit

abbrev pub BoundsSay : Type 0
BoundsSay = (a : Street) → IsValid a → (d : Dir) → IsTightest a d (tightest a d)

-- a street of which one direction may be starved
pub record MayBeStarved (a : Street) : Type 0 where
  pub alike : a.head.ratio ≡ whole (pos 1)
  pub unequal : a.head.equal ≡ false
  pub unbounded : (a.head.least_out ≡ whole (pos 0)) ⊎ (a.head.least_in ≡ whole (pos 0))

-- so many seconds are whole ticks of a grid of so many ticks a second
abbrev pub IsOnGrid : ℕ → ℚ → Type 0
IsOnGrid grid seconds = (ticks : ℤ) × (seconds ≡ over ticks grid)

-- all times of travel at the limits of speed are
abbrev pub HasGrid : Street → ℕ → Type 0
HasGrid a grid = (d : Dir) (i : ℕ) → HasLink a i → IsOnGrid grid (run_low a d i) × IsOnGrid grid (run_high a d i)

-- the rule of a warning
abbrev pub Rule : Street → Warning → Type 0
Rule a (TakesLittle d i) = run_low a d i <ℚ whole (pos least_travel)
Rule a (TakesLong d i) = whole (pos most_travel) <ℚ run_low a d i
Rule a (TooFast d i) = whole (pos (fastest a.head.units)) <ℚ (speed a d i).most
Rule a (TooSlow d i) = (speed a d i).least <ℚ whole (pos (slowest a.head.units))
Rule a (MostlyRed d i) = 3 * a.head.parts < 4 * red_parts a d i
Rule a (AlikeNames i) = plain_name (name_of a i) ≡ plain_name (name_of a (i + 1))
Rule a MayStarve = MayBeStarved a
Rule a LongFractions = (grid : ℕ) → 1 ≤ grid → grid ≤ most_ticks → ¬ HasGrid a grid

-- a warning is of a place of the street
abbrev pub IsOf : Street → Warning → Type 0
IsOf a (TakesLittle d i) = HasLink a i
IsOf a (TakesLong d i) = HasLink a i
IsOf a (TooFast d i) = HasLink a i
IsOf a (TooSlow d i) = HasLink a i
IsOf a (MostlyRed d i) = HasSignal a i
IsOf a (AlikeNames i) = HasLink a i
IsOf a MayStarve = Unit {0}
IsOf a LongFractions = Unit {0}

-- the lines of just those warnings of the street's places whose rule holds
pub record AreWarned (a : Street) (lines : List ℕ) : Type 0 where
  pub warnings : List Warning
  pub just : (w : Warning) → Contains warnings w ↔ (IsOf a w × Rule a w)
  pub lines_are : lines ≡ flat_map (warning_line a) warnings

-- every warning of a place of the street is looked at and no other, and its line stands exactly where its rule holds
pub record WarningsSay : Type 0 where
  pub looked_at : (a : Street) (w : Warning) → IsOf a w ↔ Contains (all_warnings (count a)) w
  pub stands : (a : Street) (w : Warning) → Rule a w → told a w ≡ warning_line a w
  pub silent : (a : Street) (w : Warning) → (Rule a w → ⊥) → told a w ≡ []
  pub lines : (a : Street) → AreWarned a (warning_lines a)
