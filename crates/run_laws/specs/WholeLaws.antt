-- What the statuses of `whole` say of the model: statements about the definitions of a run, which a public call proves.
use Rattle.std.specs.Prelude.{◌≡◌, ◌⊎◌, ℕ, ◌-◌, List, Contains, Option, Some, slice_index, Ok}
use Rattle.rational_theory.specs.Rational.{ℚ, ◌+ℚ◌, ◌≤ℚ◌}
use Rattle.outer_edge.specs.Held.{SameFiles, HoldsExactly}
use Rattle.outer_edge.specs.Taken.{Appends}
use Rattle.progression.specs.Street.{Street, HasSignal}
use Rattle.progression.specs.Speeds.{number}
use Rattle.progression.specs.TimingRecord.{TimingRecord, base}
use Rattle.progression.specs.Good.{Good}
use Rattle.progression.specs.Best.{weighted_band}
use Rattle.timing_measures.specs.Measures.{cycle_seconds, offset}
use Rattle.certificate_model.specs.Warrants.{Warrant}
use Rattle.plan_text.specs.Spelling.{timing_text}
use Rattle.plan_text.specs.Reading.{timing_of}
use Rattle.second_plan.specs.declared.answer.Plan.{Plan}
use Rattle.second_plan.specs.declared.answer.PlanEnd.{PlanEnd}
use Rattle.whole_offsets.specs.Offsets.{IsBestOfRuns}
use Rattle.whole_offsets.specs.Steady.{IsSteady}
use Rattle.whole_plan.specs.Cycles.{tried_cycles}
use Rattle.whole_plan.specs.Sought.{IsStart}
use Rattle.whole_plan.specs.Planned.{IsWholePlan}
use Rattle.run_inputs.specs.Cycles.{seconds_of, AreSpelled}
use Rattle.run_inputs.specs.Reading.{Reads}
use Rattle.run_inputs.specs.declared.reader.ReadAs.TheVariants.{Description, Certificate}
use Rattle.run_inputs.specs.Status.{number_of}
use Rattle.run_inputs.specs.declared.cause.Cause.{Cause}
use Rattle.run_inputs.specs.declared.cause.Cause.TheVariants as cause
use Rattle.run_commands.specs.Bound.{IsBound}
use Rattle.run_commands.specs.Whole.{whole_lines, IsBasis, ClaimsNone, HasNoPlan}
use Rattle.maxband_run.specs.Outside.{Outside}
use Rattle.maxband_run.specs.Run.{Ends}
use Rattle.run_laws.specs.Asked as ask
use Rattle.run_laws.specs.PlanLaws.{SaysUnbound}

-- With status 0 a plan in whole seconds is put: the file holds, where it is told, the text of a timing that is good on the described artery and is read back, and it was
-- told. It is the widest plan over the cycles that the words and the street's limits leave to be tried, its own among them. Its offsets were begun from the timing that a
-- search of its cycle found, or from the certificate's, and no move of them, with the same patterns, leads to a better plan; with its cycle, patterns, offsets and grid no
-- runs and no firsts are better (with its runs, where pace is limited). No good timing at all has a band that is greater by more than the loss, which is what the plan's
-- lacks to the claim of the certificate, of the street or of the widened street.
pub record PutsWhole (before now : Outside) (artery certificate plan : List ℕ) (cycles : List (List ℕ)) : Type 0 where
  pub street : Street
  pub warrant : Warrant
  pub named : List ℕ
  pub claim : ℚ
  pub given : Option TimingRecord
  pub start : TimingRecord
  pub made : Plan
  pub description : Reads Description (before.holds artery) street
  pub text : Reads Certificate (before.holds certificate) warrant
  pub spelled : AreSpelled seconds_of cycles named
  pub basis : IsBasis street warrant claim given
  pub widest : IsWholePlan street claim given (tried_cycles street warrant.timing named) made
  pub tried : Contains (tried_cycles street warrant.timing named) made.seconds
  pub started : IsStart street given made.seconds (Some start)
  pub cycle_is : cycle_seconds street (base made.timing) ≡ number made.seconds
  pub offsets_are : (i : ℕ) → HasSignal street i → offset street (base made.timing) i ≡ number (slice_index made.offsets.items (i - 1))
  pub good : Good street made.timing
  pub best : IsBestOfRuns street made.timing
  pub steady : IsSteady street (base start) made.seconds made.offsets.items made.timing
  pub lost : (s : TimingRecord) → Good street s → weighted_band street s ≤ℚ (weighted_band street made.timing +ℚ made.loss)
  pub put : HoldsExactly (now.holds plan) (timing_text made.timing)
  pub read_back : timing_of (timing_text made.timing) ≡ Ok made.timing
  pub told : Appends before.taken now.taken (whole_lines street made)

-- with status 10: the certificate is accepted so, there is no plan for this reason, and no file has changed
pub record SaysNoWhole (before now : Outside) (artery certificate : List ℕ) (cycles : List (List ℕ)) (c : Cause) : Type 0 where
  pub street : Street
  pub warrant : Warrant
  pub named : List ℕ
  pub reason : PlanEnd
  pub description : Reads Description (before.holds artery) street
  pub text : Reads Certificate (before.holds certificate) warrant
  pub accepted : IsBound street warrant
  pub spelled : AreSpelled seconds_of cycles named
  pub unplanned : ClaimsNone street warrant reason ⊎ HasNoPlan street warrant named reason
  pub cause_is : c ≡ cause.Unplanned reason
  pub kept : SameFiles before.holds now.holds

abbrev pub WholeSays : Type 0
WholeSays = (before now : Outside) (artery certificate plan : List ℕ) (cycles : List (List ℕ)) (c : Cause) → Ends before now (ask.whole artery certificate plan cycles) c
    → (number_of c ≡ 0 → PutsWhole before now artery certificate plan cycles)
    × (number_of c ≡ 4 → SaysUnbound before now artery certificate c)
    × (number_of c ≡ 10 → SaysNoWhole before now artery certificate cycles c)
