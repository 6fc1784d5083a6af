-- What `round` finds of an artery and a certificate, what `round-from` finds of these and another timing, what they write, and what they put.
use Rattle.std.specs.Prelude.{◌≡◌, ℕ, ◌-◌, List, ◌++◌, codes, slice_index, Option, Some, None, Ok}
use Rattle.std.specs.List.{flat_map, range_with_len}
use Rattle.std.specs.Fmt.{decimal}
use Rattle.rational_theory.specs.Rational.{ℚ, ◌≤ℚ◌}
use Rattle.narrow_fraction.specs.declared.wide.Wide.{Wide}
use Rattle.quantity_text.specs.Exact.{exact_spelling}
use Rattle.progression.specs.Street.{Street, count, signal_of}
use Rattle.progression.specs.Speeds.{number}
use Rattle.progression.specs.TimingRecord.{TimingRecord, base}
use Rattle.progression.specs.declared.parts.Dir.TheVariants.{Outbound, Inbound}
use Rattle.progression.specs.Good.{Good}
use Rattle.time_space.specs.FirstFailing.{IsFirstFailing}
use Rattle.time_space.specs.declared.failing.Failing.{Failing}
use Rattle.artery_model.specs.Valid.{IsValid}
use Rattle.certificate_model.specs.Warrants.{Warrant}
use Rattle.plan_text.specs.Spelling.{timing_text}
use Rattle.plan_text.specs.Reading.{timing_of}
use Rattle.certificate_checker.specs.Accepted.{IsAccepted, limit_of}
use Rattle.diagram_print.specs.Measures.{dir_name, band_line, weighted_line}
use Rattle.speed_steps.specs.Moved.{widen}
use Rattle.second_plan.specs.Planned.{IsAnswer, IsBestOfOffsets}
use Rattle.second_plan.specs.Ends.{Ends}
use Rattle.second_plan.specs.declared.answer.Plan.{Plan as Rounded}
use Rattle.second_plan.specs.declared.answer.PlanEnd.{PlanEnd}
use Rattle.second_plan.specs.declared.answer.PlanEnd.TheVariants as end
use Rattle.run_inputs.specs.Puts.{With}
use Rattle.run_commands.specs.Lines.{failing_text, fails_line, untimed_line}
use Rattle.run_commands.specs.Sought.{whole_bands}
use Rattle.run_commands.specs.Checked.{whole_checked}
use Rattle.run_commands.specs.Check.{Rejects}
use Rattle.run_commands.specs.Bound.{IsBound, IsRefused}
use Rattle.run_inputs.specs.declared.cause.Cause.{Cause}
use Rattle.run_inputs.specs.declared.cause.Cause.TheVariants as cause

-- ---- the lines
abbrev pub whole_cycle_line : ℕ → List ℕ
whole_cycle_line seconds = codes "cycle " ++ (decimal seconds ++ codes "\n")

abbrev pub offset_line : Street → List ℕ → ℕ → List ℕ
offset_line a offsets i = codes "signal " ++ (decimal i ++ (codes " offset " ++ (decimal (slice_index offsets (i - 1)) ++ (codes " " ++ ((signal_of a i).name ++ codes "\n")))))

abbrev pub offset_lines : Street → List ℕ → List ℕ
offset_lines a offsets = flat_map (offset_line a offsets) (range_with_len 1 (count a))

abbrev pub loss_line : ℚ → List ℕ
loss_line loss = codes "loss " ++ (exact_spelling loss ++ codes "\n")

-- the cycle and the offsets in seconds, the bands and the weighted band of the plan's timing, and the loss
abbrev pub plan_lines : Street → ℕ → List ℕ → TimingRecord → ℚ → List ℕ
plan_lines a seconds offsets timing loss =
    whole_cycle_line seconds ++ (offset_lines a offsets ++ (band_line a timing Outbound ++ (band_line a timing Inbound ++ (weighted_line a timing ++ loss_line loss))))

abbrev pub wide_line : Wide → List ℕ
wide_line w = codes "no plan wide " ++ (exact_spelling w.left ++ (codes " " ++ (exact_spelling w.right ++ codes "\n")))

abbrev pub unplanned_line : PlanEnd → List ℕ
unplanned_line end.NoTimingGiven = untimed_line
unplanned_line end.NoWholeCycle = codes "no plan cycle\n"
unplanned_line (end.TooFine ticks) = codes "no plan ticks " ++ (decimal ticks ++ codes "\n")
unplanned_line (end.NoLine d) = codes "no plan line " ++ (dir_name d ++ codes "\n")
unplanned_line (end.Fails f) = codes "no plan " ++ (failing_text f ++ codes "\n")
unplanned_line (end.Wide w) = wide_line w

-- ---- the answer
-- The certificate is accepted so, this is the number that no weighted band exceeds, and the timing that is given is good. `Accepts` is
-- `IsAccepted`, or `IsBound` where a certificate of the widened street serves too.
pub record IsCertified (Accepts : Street → Warrant → Type 0) (a : Street) (w : Warrant) (given : Option TimingRecord) (timing : TimingRecord) (claim : ℚ) : Type 0 where
  pub valid : IsValid a
  pub accepted : Accepts a w
  pub timing_is : given ≡ Some timing
  pub good : Good a timing
  pub claim_is : limit_of w.claim ≡ Some claim

-- the plan in whole seconds of the given timing, what it loses at most against every timing, and its text, which is read back
pub record IsRounded (Accepts : Street → Warrant → Type 0) (a : Street) (w : Warrant) (given : Option TimingRecord) (lines text : List ℕ) : Type 0 where
  pub timing : TimingRecord
  pub claim : ℚ
  pub certified : IsCertified Accepts a w given timing claim
  pub plan : Rounded
  pub answer : IsAnswer a claim (base timing) plan
  pub best : IsBestOfOffsets a plan.timing
  pub loss : number 0 ≤ℚ plan.loss
  pub lines_are : lines ≡ plan_lines a plan.seconds plan.offsets.items plan.timing plan.loss
  pub written : text ≡ timing_text plan.timing
  pub read_back : timing_of text ≡ Ok plan.timing

-- the certificate is accepted, and no timing is given, or the one that is has no plan, for this first reason
abbrev pub Unplans : (Street → Warrant → Type 0) → Street → Warrant → Option TimingRecord → PlanEnd → Type 0
Unplans Accepts a w given end.NoTimingGiven = Accepts a w × (given ≡ None)
Unplans Accepts a w given e = (timing : TimingRecord) × (claim : ℚ) × IsCertified Accepts a w given timing claim × Ends a claim (base timing) e

pub record IsUnplanned (Accepts : Street → Warrant → Type 0) (a : Street) (w : Warrant) (given : Option TimingRecord) (e : PlanEnd) (lines : List ℕ) (put : Option (List ℕ)) : Type 0 where
  pub first : Unplans Accepts a w given e
  pub lines_are : lines ≡ unplanned_line e
  pub no_put : put ≡ None

-- of the certificate's own timing, which is good where it is accepted
abbrev pub RoundFinds : Street → Warrant → Cause → List ℕ → Option (List ℕ) → Type 0
RoundFinds a w cause.Done lines put = With (IsRounded IsAccepted a w w.timing lines) put
RoundFinds a w (cause.Rejected reject) lines put = Rejects whole_bands whole_checked a w (cause.Rejected reject) lines × (put ≡ None)
RoundFinds a w (cause.Unplanned e) lines put = IsUnplanned IsAccepted a w w.timing e lines put
RoundFinds a w c lines put = ⊥

-- the certificate is accepted so, and the given timing breaks a rule, this first
pub record IsUnfit (Accepts : Street → Warrant → Type 0) (a : Street) (w : Warrant) (given : Option TimingRecord) (f : Failing) (lines : List ℕ) (put : Option (List ℕ)) : Type 0 where
  pub accepted : Accepts a w
  pub timing : TimingRecord
  pub timing_is : given ≡ Some timing
  pub first : IsFirstFailing a timing f
  pub lines_are : lines ≡ fails_line f
  pub no_put : put ≡ None

-- of another timing, by a certificate of the street or of the widened street
abbrev pub RoundFromFinds : Street → Warrant → Option TimingRecord → Cause → List ℕ → Option (List ℕ) → Type 0
RoundFromFinds a w given cause.Done lines put = With (IsRounded IsBound a w given lines) put
RoundFromFinds a w given (cause.Rejected reject) lines put = Rejects whole_bands whole_checked a w (cause.Rejected reject) lines × IsRefused (widen a) w × (put ≡ None)
RoundFromFinds a w given (cause.Fails f) lines put = IsUnfit IsBound a w given f lines put
RoundFromFinds a w given (cause.Unplanned e) lines put = IsUnplanned IsBound a w given e lines put
RoundFromFinds a w given c lines put = ⊥

-- the lines of a plan, and its text, which is put
pub record TellsRounded (a : Street) (plan : Rounded) (c : Cause) (lines : List ℕ) (put : Option (List ℕ)) : Type 0 where
  pub cause_is : c ≡ cause.Done
  pub lines_are : lines ≡ plan_lines a plan.seconds plan.offsets.items plan.timing plan.loss
  pub put_is : put ≡ Some (timing_text plan.timing)
  pub read_back : timing_of (timing_text plan.timing) ≡ Ok plan.timing
