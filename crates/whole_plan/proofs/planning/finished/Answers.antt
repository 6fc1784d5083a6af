use Rattle.std.proofs.Common.{subst}
use Rattle.std.proofs.lemmas.Result.{IfOk-weaker}
use Rattle.whole_plan.specs.Choice.{IsSoFar}
use Rattle.whole_plan.specs.declared.choosing.SoFar.{SoFar}
use Rattle.whole_plan.proofs.Finishing.{broken_ends}
use Rattle.whole_plan.proofs.planning.finished.Goals as goal

pub returns-in-Chosen-clause-plan : goal.returns-in-Chosen-clause-plan
returns-in-Chosen-clause-plan c =
    IfOk-weaker c.with_loss.result _ _ (λ p h given cycles s. h given cycles (subst (λ (x : SoFar). IsSoFar c.args.artery.now given cycles x) c.in-Chosen.is s)) c.with_loss.ensures.plan

pub returns-in-Broken-clause-fault : goal.returns-in-Broken-clause-fault
returns-in-Broken-clause-fault c = λ given cycles s.
    broken_ends c.args.artery.now c.args.claim given cycles c.in-Broken._best.seconds c.in-Broken._best.plan c.in-Broken.end
    (subst (λ (x : SoFar). IsSoFar c.args.artery.now given cycles x) c.in-Broken.is s)
