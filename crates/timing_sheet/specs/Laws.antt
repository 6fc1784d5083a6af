-- What a sheet and the words of a street say of one time are the same numbers.
use Rattle.std.specs.Prelude.{◌≡◌, ℕ, ◌≤◌}
use Rattle.rational_theory.specs.Rational.{ℚ, ◌*ℚ◌}
use Rattle.progression.specs.Speeds.{number, run_low, run_high}
use Rattle.progression.specs.Street.{Street, HasSignal}
use Rattle.progression.specs.BaseRecord.{BaseRecord, run}
use Rattle.progression.specs.declared.parts.Dir.{Dir}
use Rattle.artery_model.specs.Valid.{IsValid}
use Rattle.timing_measures.specs.Measures.{cycle_seconds}
use Rattle.timing_words.specs.Numbers.{tenths, seconds_text}
use Rattle.street_words.specs.Numbers.{parts_seconds}
use Rattle.street_words.specs.Streets.{green_parts}
use Rattle.timing_sheet.specs.Records.{parts_text, green_text}

-- a run in ticks takes just so many seconds
abbrev pub Takes : BaseRecord → Dir → ℕ → ℚ → Type 0
Takes b d i seconds = number (run b d i) ≡ seconds *ℚ number b.grid

-- At a base's own cycle so many parts and each direction's green are the same number in both, and so is a run that is at a limit of speed.
pub record SecondsAgree (a : Street) (b : BaseRecord) : Type 0 where
  pub parts : (n : ℕ) → tenths (parts_seconds a n (cycle_seconds a b)) ≡ parts_text b n
  pub green : (d : Dir) (i : ℕ) → HasSignal a i → tenths (parts_seconds a (green_parts a d i) (cycle_seconds a b)) ≡ green_text a b d i
  pub fastest : (d : Dir) (i : ℕ) → Takes b d i (run_low a d i) → tenths (run_low a d i) ≡ seconds_text b (run b d i)
  pub slowest : (d : Dir) (i : ℕ) → Takes b d i (run_high a d i) → tenths (run_high a d i) ≡ seconds_text b (run b d i)

abbrev pub AllSecondsAgree : Type 0
AllSecondsAgree = (a : Street) (b : BaseRecord) → IsValid a → 1 ≤ b.grid → SecondsAgree a b
