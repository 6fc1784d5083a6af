use Rattle.std.proofs.Common.{sym, subst}
use Rattle.progression.specs.Good.{IsBase}
use Rattle.whole_plan.specs.Sets.{IsOutcomeFrom}
use Rattle.whole_plan.specs.declared.setting.Outcome.TheVariants.{OffsetSet, Ended}
use Rattle.whole_plan.proofs.setting.outcome_from.Goals as goal

pub steady-requires-clause-base : goal.steady-requires-clause-base
steady-requires-clause-base c = subst (λ b. IsBase c.args.artery.now b) (sym c.base.ensures) c.requires.good.base

pub returns-in-Ok : goal.returns-in-Ok
returns-in-Ok c = subst (λ b. IsOutcomeFrom c.args.artery.now b c.args.seconds (OffsetSet c.in-Ok.plan)) c.base.ensures
    (record { steady = c.in-Ok.ensures.steady; score = c.in-Ok.ensures.score; end = c.in-Ok.ensures.end; best = c.in-Ok.ensures.best })

pub returns-in-Err-End : goal.returns-in-Err-End
returns-in-Err-End c = subst (λ b. IsOutcomeFrom c.args.artery.now b c.args.seconds (Ended c.in-Err-End.end)) c.base.ensures
    (rw c.in-Err-End.field-0-is at c.in-Err-End.ensures.faults)
