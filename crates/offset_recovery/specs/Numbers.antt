-- What is known of a vertex's numbers where its unit fits, and the lists of its timing.
use Rattle.std.specs.Prelude.{◌≡◌, ℕ, ◌-◌, ◌*◌, ◌<◌, ◌≤◌, ◌^◌, List, length, None, Result, IfOk, if◌then◌else◌}
use Rattle.rational_theory.specs.Rational.{ℚ, ◌≤ℚ◌}
use Rattle.progression.specs.Speeds.{number, run_high}
use Rattle.rational_theory.specs.Rows.{AllNonNegative}
use Rattle.progression.specs.Street.{Street, count, signal_of, red_parts, left_against, HasSignal, HasLink}
use Rattle.progression.specs.BaseRecord.{BaseRecord}
use Rattle.progression.specs.TimingRecord.{TimingRecord, base}
use Rattle.progression.specs.Green.{is_early}
use Rattle.progression.specs.Columns.{BandOf, Frequency, WaitOf, RunOf, numbered}
use Rattle.progression.specs.declared.parts.Dir.{Dir}
use Rattle.progression.specs.declared.parts.Dir.TheVariants.{Outbound, Inbound}
use Rattle.linear_theory.specs.Places.{place, width}
use Rattle.recovery_theory.specs.Ticks.{common, unit_of, ticks_of}
use Rattle.recovery_theory.specs.Placing.{pattern_at, with_out, reds_of, with_reds}
use Rattle.narrow_fraction.specs.Attempt.{attempt, first_below}
use Rattle.offset_recovery.specs.declared.outcome.WideTiming.{WideTiming}
use Rattle.offset_recovery.specs.Tests.{product_test, unit_test}
use Rattle.offset_recovery.specs.ByLink.{ticks_by_link}

-- each product with the number of parts fits
abbrev pub ProductsFit : Street → List ℚ → Type 0
ProductsFit a x = (j : ℕ) → j < length x → product_test a x j ≡ None

-- the least common denominator of the first j products, or the first that is too great
pub record IsCommon (a : Street) (x : List ℚ) (j : ℕ) (found : Result ℕ WideTiming) : Type 0 where
  pub value : found ≡ attempt (first_below (unit_test a x) j) (common a x j)
  pub small : IfOk found (λ n. n < 2 ^ 80)

-- the vertex's columns, and how many ticks they have at most
pub record IsReady (a : Street) (x : List ℚ) : Type 0 where
  pub parts : 0 < a.head.parts
  pub columns : width (count a) ≤ length x
  pub not_negative : AllNonNegative x
  pub products : ProductsFit a x
  pub unit : unit_of a x < 2 ^ 80
  pub cycle : a.head.parts * unit_of a x < 2 ^ 92
  pub some : 0 < a.head.parts * unit_of a x
  pub waits : (d : Dir) (i : ℕ) → HasSignal a i → ticks_of a x (WaitOf d i) < 2 ^ 92
  pub bands : (d : Dir) → ticks_of a x (BandOf d) < 2 ^ 92
  pub grid : ticks_of a x Frequency < 2 ^ 93
  pub second : 1 ≤ ticks_of a x Frequency
  pub runs : (d : Dir) (i seconds : ℕ) → HasLink a i → run_high a d i ≤ℚ number seconds → ticks_of a x (RunOf d i) ≤ seconds * ticks_of a x Frequency

-- each run fits a timing
abbrev pub RunsFit : Street → List ℚ → Type 0
RunsFit a x = (d : Dir) (i : ℕ) → HasLink a i → ticks_of a x (RunOf d i) < 2 ^ 80

-- ---- the lists of the timing
abbrev pub patterns_at : Street → List ℚ → List ℕ
patterns_at a x = numbered (count a) 1 (pattern_at a x)

abbrev pub reds_at : Street → List ℚ → List ℕ
reds_at a x = reds_of a (unit_of a x) (ticks_of a x) (pattern_at a x)

-- the runs of a direction
abbrev pub runs_at : Street → List ℚ → Dir → List ℕ
runs_at a x d = ticks_by_link a x (λ i. place (count a) (RunOf d i))

-- the timing before its reds
abbrev pub out_at : Street → List ℚ → TimingRecord
out_at a x = with_out a (unit_of a x) (ticks_of a x) (pattern_at a x)

-- the base of the timing
abbrev pub base_at : Street → List ℚ → BaseRecord
base_at a x = base (with_reds a (unit_of a x) (ticks_of a x) (pattern_at a x))

-- how many parts after the common red's start the outbound red ends: at once where the left turn against it lags
abbrev pub end_parts : Street → ℕ → ℕ → ℕ
end_parts a i p = if is_early Outbound p then (signal_of a i).red else red_parts a Outbound i

-- how many parts before the common red the inbound red starts
abbrev pub ahead_parts : Street → ℕ → ℕ → ℕ
ahead_parts a i p = if is_early Inbound p then left_against a Inbound i else 0
