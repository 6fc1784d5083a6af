use Rattle.std.proofs.Common.{refl}
use Rattle.whole_plan.proofs.Finishing.{planned, past_loss}
use Rattle.whole_plan.proofs.planning.with_loss.Goals as goal

pub returns-in-Ok-clause-plan : goal.returns-in-Ok-clause-plan
returns-in-Ok-clause-plan c = λ given cycles chosen.
    planned c.args.artery.now c.args.claim c.args.best.seconds c.args.best.plan c.value.result c.value.ensures.value given cycles chosen _
    refl refl refl c.in-Ok.ensures.value.0 c.in-Ok.ensures.value.1

pub returns-in-Err-clause-fault : goal.returns-in-Err-clause-fault
returns-in-Err-clause-fault c = λ given cycles chosen.
    past_loss c.args.artery.now c.args.claim c.args.best.seconds c.args.best.plan c.value.result c.value.ensures.value given cycles chosen c.in-Err.wide c.in-Err.ensures.wide.0 c.in-Err.ensures.wide.1
