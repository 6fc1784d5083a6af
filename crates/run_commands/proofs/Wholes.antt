-- From what a whole plan's lines and text are to what is found.
use Rattle.std.proofs.Common.{◌≡◌, ℕ, List, length, Option, None, Result, Ok, Err, refl, sym, ◌∙◌, ap, subst}
use Rattle.std.specs.Prelude.{◌⊎◌, IfOk, option_map}
use Rattle.rational_theory.specs.Rational.{ℚ, ◌≤ℚ◌}
use Rattle.narrow_fraction.specs.declared.memory.Memory.{Memory}
use Rattle.progression.specs.Street.{Street, count}
use Rattle.progression.specs.Speeds.{number}
use Rattle.progression.specs.TimingRecord.{TimingRecord}
use Rattle.progression.specs.Good.{Good}
use Rattle.certificate_model.specs.Warrants.{Warrant}
use Rattle.certificate_checker.specs.Accepted.{limit_of}
use Rattle.plan_text.specs.Spelling.{timing_text}
use Rattle.second_plan.specs.declared.answer.Plan.{Plan}
use Rattle.second_plan.specs.declared.answer.PlanEnd.{PlanEnd}
use Rattle.second_plan.specs.declared.answer.PlanEnd.TheVariants as end
use Rattle.whole_offsets.specs.Offsets.{IsBestOfRuns}
use Rattle.whole_plan.specs.Cycles.{tried_cycles}
use Rattle.whole_plan.specs.Planned.{IsWholePlan, Ends}
use Rattle.run_inputs.specs.Puts.{bytes_of}
use Rattle.run_inputs.specs.declared.cause.Cause.{Cause}
use Rattle.run_inputs.specs.declared.cause.Cause.TheVariants as cause
use Rattle.run_inputs.specs.declared.found.Found.{Found}
use Rattle.run_commands.specs.Bound.{IsBound}
use Rattle.run_commands.specs.Round.{unplanned_line}
use Rattle.run_commands.specs.Whole.{IsBasis, ClaimsNone, HasNoPlan, WholeFinds, TellsWhole}

-- one offset for each signal
pub offsets_long : (a : Street) (claim : ℚ) (start : Option TimingRecord) (cycles : List ℕ) (p : Plan) → IsWholePlan a claim start cycles p → length p.offsets.items ≡ count a
offsets_long a claim start cycles p h = ap (λ os. length os.items) h.offsets_are ∙ h.chosen.set.set.steady.within.each_has

module _ (a : Street) (w : Warrant) (named : List ℕ) where
  -- why there is no plan
  pub planless : (e : PlanEnd) (r : Result Found Memory) → ClaimsNone a w e ⊎ HasNoPlan a w named e
      → IfOk r (λ x. x.cause ≡ cause.Unplanned e) → IfOk r (λ x. x.lines.items ≡ unplanned_line e) → IfOk r (λ x. x.bytes ≡ None)
      → IfOk r (λ x. WholeFinds a w named x.cause x.lines.items (bytes_of x))
  planless e (Ok x) h c l n =
      subst (λ (d : Cause). WholeFinds a w named d x.lines.items (bytes_of x)) (sym c) (record { reason = h; lines_are = l; no_put = ap (option_map (λ b. b.items)) n })
  planless e (Err m) h c l n = tt

  module _ (claim : ℚ) (start : Option TimingRecord) (basis : IsBasis a w claim start) where
    -- a plan
    pub whole_told : (cycles : List ℕ) (plan : Plan) (r : Result Found Memory) → cycles ≡ tried_cycles a w.timing named → IsWholePlan a claim start cycles plan
        → Good a plan.timing → IsBestOfRuns a plan.timing → number 0 ≤ℚ plan.loss
        → IfOk r (λ x. TellsWhole a plan x.cause x.lines.items (bytes_of x)) → IfOk r (λ x. WholeFinds a w named x.cause x.lines.items (bytes_of x))
    whole_told cycles plan (Err m) is answer good best loss h = tt
    whole_told cycles plan (Ok x) is answer good best loss h =
        subst (λ (c : Cause). WholeFinds a w named c x.lines.items (bytes_of x)) (sym h.cause_is) (
          timing_text plan.timing,
          h.put_is,
          record {
            claim = claim;
            start = start;
            basis = basis;
            plan = plan;
            answer = subst (λ ks. IsWholePlan a claim start ks plan) is answer;
            good = good;
            best = best;
            loss = loss;
            lines_are = h.lines_are;
            written = refl;
            read_back = h.read_back;
          },
        )

    pub has_no_plan : (cycles : List ℕ) (e : PlanEnd) → cycles ≡ tried_cycles a w.timing named → Ends a claim start cycles e → HasNoPlan a w named e
    has_no_plan cycles e is h = record { claim = claim; start = start; basis = basis; ends = subst (λ ks. Ends a claim start ks e) is h }

  pub claims_none : IsBound a w → limit_of w.claim ≡ None → ClaimsNone a w end.NoTimingGiven
  claims_none accepted none = record { accepted = accepted; none = none; end_is = refl }
