-- What `timing` finds of an artery and a plan that is typed in seconds, what it writes, and what it puts.
use Rattle.std.specs.Prelude.{◌≡◌, ◌⊎◌, ℕ, List, ◌++◌, Option, None, Ok}
use Rattle.progression.specs.Street.{Street}
use Rattle.progression.specs.declared.parts.Dir.TheVariants.{Outbound, Inbound}
use Rattle.artery_model.specs.Valid.{IsValid}
use Rattle.artery_model.specs.declared.kind.Refusal.{Refusal}
use Rattle.plan_text.specs.Spelling.{timing_text}
use Rattle.plan_text.specs.Reading.{timing_of}
use Rattle.diagram_print.specs.Measures.{weighted_line}
use Rattle.description_reader.specs.Typed.{Typed}
use Rattle.typed_plan.specs.Ends.{IsTimingOf, Refuses}
use Rattle.time_space.specs.declared.failing.Failing.{Failing}
use Rattle.typed_plan.specs.declared.timing.Measured.{Measured}
use Rattle.typed_plan.specs.declared.timing.TypedFault.TheVariants as fault
use Rattle.run_inputs.specs.Puts.{With}
use Rattle.run_inputs.specs.Lines.{refused_line}
use Rattle.run_commands.specs.Bands.{widest_line}
use Rattle.run_commands.specs.Half.{ticks_line}
use Rattle.run_commands.specs.Hold.{IsJudged, verdict_line}
use Rattle.run_inputs.specs.declared.cause.Cause.{Cause}
use Rattle.run_inputs.specs.declared.cause.Cause.TheVariants as cause

-- the pairs that are put, and the weighted band of the timing that has them
abbrev pub measured_lines : Street → Measured → List ℕ
measured_lines a m = widest_line a m.timing Outbound m.outbound ++ (widest_line a m.timing Inbound m.inbound ++ weighted_line a m.timing)

-- these lines and that of what `hold` says of the timing, and its text, which is read back
pub record IsWritten (a : Street) (m : Measured) (lines text : List ℕ) : Type 0 where
  pub broken : Option Failing
  pub judged : IsJudged a m.timing broken
  pub lines_are : lines ≡ measured_lines a m ++ verdict_line broken
  pub written : text ≡ timing_text m.timing
  pub read_back : timing_of text ≡ Ok m.timing

-- so with the status of a run without a fault
abbrev pub WritesTiming : Street → Measured → Cause → List ℕ → Option (List ℕ) → Type 0
WritesTiming a m c lines put = (c ≡ cause.Done) × With (IsWritten a m lines) put

-- the plan's timing, whichever rules it breaks
pub record HasTiming (a : Street) (p : Typed) (c : Cause) (lines : List ℕ) (put : Option (List ℕ)) : Type 0 where
  pub valid : IsValid a
  pub made : Measured
  pub made_is : IsTimingOf a p made
  pub finds : WritesTiming a made c lines put

-- the plan has more or fewer numbers at this place than the artery has signals or links
pub record IsMiscounted (a : Street) (p : Typed) (c : Cause) (lines : List ℕ) (put : Option (List ℕ)) : Type 0 where
  pub refusal : Refusal
  pub first : Refuses a p (fault.Refused refusal)
  pub cause_is : c ≡ cause.Refused refusal
  pub lines_are : lines ≡ refused_line refusal
  pub no_put : put ≡ None

-- it has as many, and so many ticks are past the limit of a timing
pub record IsTooFine (a : Street) (p : Typed) (c : Cause) (lines : List ℕ) (put : Option (List ℕ)) : Type 0 where
  pub ticks : ℕ
  pub first : Refuses a p (fault.TooFine ticks)
  pub cause_is : c ≡ cause.TooFine ticks
  pub lines_are : lines ≡ ticks_line ticks
  pub no_put : put ≡ None

abbrev pub TypedFinds : Street → Typed → Cause → List ℕ → Option (List ℕ) → Type 0
TypedFinds a p c lines put = HasTiming a p c lines put ⊎ IsMiscounted a p c lines put ⊎ IsTooFine a p c lines put
