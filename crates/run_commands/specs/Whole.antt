-- What `whole` finds of an artery, a certificate and the cycles among its words, what it writes, and what it puts.
use Rattle.std.specs.Prelude.{◌≡◌, ℕ, ◌-◌, List, ◌++◌, codes, slice_index, Option, Some, None, IfSome, Ok, ◌⊎◌}
use Rattle.std.specs.List.{flat_map, range_with_len}
use Rattle.std.specs.Fmt.{decimal}
use Rattle.rational_theory.specs.Rational.{ℚ, ◌≤ℚ◌}
use Rattle.progression.specs.Street.{Street, count, signal_of}
use Rattle.progression.specs.Speeds.{number}
use Rattle.progression.specs.TimingRecord.{TimingRecord, base}
use Rattle.progression.specs.BaseRecord.{pattern_of}
use Rattle.progression.specs.declared.parts.Dir.TheVariants.{Outbound, Inbound}
use Rattle.progression.specs.Good.{Good}
use Rattle.progression.specs.Best.{Bounded}
use Rattle.artery_model.specs.Valid.{IsValid}
use Rattle.certificate_model.specs.Warrants.{Warrant}
use Rattle.plan_text.specs.Spelling.{timing_text}
use Rattle.plan_text.specs.Reading.{timing_of}
use Rattle.certificate_checker.specs.Accepted.{limit_of}
use Rattle.diagram_print.specs.Measures.{band_line, weighted_line}
use Rattle.diagram_print.specs.Speeds.{link_lines}
use Rattle.speed_steps.specs.Moved.{widen}
use Rattle.second_plan.specs.declared.answer.Plan.{Plan}
use Rattle.second_plan.specs.declared.answer.PlanEnd.{PlanEnd}
use Rattle.second_plan.specs.declared.answer.PlanEnd.TheVariants as end
use Rattle.whole_offsets.specs.Offsets.{IsBestOfRuns}
use Rattle.whole_plan.specs.Cycles.{tried_cycles}
use Rattle.whole_plan.specs.Planned.{IsWholePlan, Ends}
use Rattle.run_inputs.specs.Puts.{With}
use Rattle.run_commands.specs.Sought.{whole_bands}
use Rattle.run_commands.specs.Checked.{whole_checked}
use Rattle.run_commands.specs.Check.{Rejects}
use Rattle.run_commands.specs.Bound.{IsBound, IsRefused}
use Rattle.run_commands.specs.Round.{whole_cycle_line, loss_line, unplanned_line}
use Rattle.run_inputs.specs.declared.cause.Cause.{Cause}
use Rattle.run_inputs.specs.declared.cause.Cause.TheVariants as cause

-- ---- the lines
abbrev pub signal_line : Street → TimingRecord → List ℕ → ℕ → List ℕ
signal_line a t offsets i =
    codes "signal " ++ (decimal i ++ (codes " pattern " ++ (decimal (pattern_of (base t) i) ++ (codes " offset "
    ++ (decimal (slice_index offsets (i - 1)) ++ (codes " " ++ ((signal_of a i).name ++ codes "\n")))))))

abbrev pub signal_lines : Street → TimingRecord → List ℕ → List ℕ
signal_lines a t offsets = flat_map (signal_line a t offsets) (range_with_len 1 (count a))

-- the speeds and both bands of a timing, and its weighted band
abbrev pub way_lines : Street → TimingRecord → List ℕ
way_lines a t = link_lines a (base t) ++ (band_line a t Outbound ++ (band_line a t Inbound ++ weighted_line a t))

-- the cycle, patterns and offsets, in seconds, what is measured of the plan's timing, and the loss
abbrev pub whole_lines : Street → Plan → List ℕ
whole_lines a p = whole_cycle_line p.seconds ++ (signal_lines a p.timing p.offsets.items ++ (way_lines a p.timing ++ loss_line p.loss))

-- ---- the answer
-- The certificate serves where a cycle's search finds no timing, as far as its timing is good for the street: one of the widened street may not be.
abbrev pub IsOwnStart : Street → Option TimingRecord → Option TimingRecord → Type 0
IsOwnStart a given start = ((start ≡ given) × IfSome start (λ t. Good a t)) ⊎ ((start ≡ None) × IfSome given (λ t. ¬ Good a t))

-- The certificate is accepted for the street or the widened street, this is the number that no weighted band exceeds, and this timing serves.
pub record IsBasis (a : Street) (w : Warrant) (claim : ℚ) (start : Option TimingRecord) : Type 0 where
  pub valid : IsValid a
  pub accepted : IsBound a w
  pub claim_is : limit_of w.claim ≡ Some claim
  pub bounded : Bounded a claim
  pub serves : IsOwnStart a w.timing start

-- The widest plan in whole seconds that is found over the tried cycles, what it loses at most against every timing, and its text, which is read back. No runs and no firsts make
-- it better, and no move of its offsets does.
pub record IsWhole (a : Street) (w : Warrant) (named lines text : List ℕ) : Type 0 where
  pub claim : ℚ
  pub start : Option TimingRecord
  pub basis : IsBasis a w claim start
  pub plan : Plan
  pub answer : IsWholePlan a claim start (tried_cycles a w.timing named) plan
  pub good : Good a plan.timing
  pub best : IsBestOfRuns a plan.timing
  pub loss : number 0 ≤ℚ plan.loss
  pub lines_are : lines ≡ whole_lines a plan
  pub written : text ≡ timing_text plan.timing
  pub read_back : timing_of text ≡ Ok plan.timing

-- the certificate claims that no timing is good, or of the tried cycles there is no plan, for this reason
pub record HasNoPlan (a : Street) (w : Warrant) (named : List ℕ) (e : PlanEnd) : Type 0 where
  pub claim : ℚ
  pub start : Option TimingRecord
  pub basis : IsBasis a w claim start
  pub ends : Ends a claim start (tried_cycles a w.timing named) e

pub record ClaimsNone (a : Street) (w : Warrant) (e : PlanEnd) : Type 0 where
  pub accepted : IsBound a w
  pub none : limit_of w.claim ≡ None
  pub end_is : e ≡ end.NoTimingGiven

pub record IsPlanless (a : Street) (w : Warrant) (named : List ℕ) (e : PlanEnd) (lines : List ℕ) (put : Option (List ℕ)) : Type 0 where
  pub reason : ClaimsNone a w e ⊎ HasNoPlan a w named e
  pub lines_are : lines ≡ unplanned_line e
  pub no_put : put ≡ None

abbrev pub WholeFinds : Street → Warrant → List ℕ → Cause → List ℕ → Option (List ℕ) → Type 0
WholeFinds a w named cause.Done lines put = With (IsWhole a w named lines) put
WholeFinds a w named (cause.Rejected reject) lines put = Rejects whole_bands whole_checked a w (cause.Rejected reject) lines × IsRefused (widen a) w × (put ≡ None)
WholeFinds a w named (cause.Unplanned e) lines put = IsPlanless a w named e lines put
WholeFinds a w named c lines put = ⊥

-- the lines of a plan, and its text, which is put
pub record TellsWhole (a : Street) (plan : Plan) (c : Cause) (lines : List ℕ) (put : Option (List ℕ)) : Type 0 where
  pub cause_is : c ≡ cause.Done
  pub lines_are : lines ≡ whole_lines a plan
  pub put_is : put ≡ Some (timing_text plan.timing)
  pub read_back : timing_of (timing_text plan.timing) ≡ Ok plan.timing
