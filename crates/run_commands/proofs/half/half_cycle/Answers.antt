use Rattle.run_commands.proofs.Planning.{half_told}
use Rattle.run_commands.proofs.half.half_cycle.Goals as goal

pub returns-in-Ok-Some-clause-finds : goal.returns-in-Ok-Some-clause-finds
returns-in-Ok-Some-clause-finds c =
    let best = rw c.in-Ok-Some.field-0-is at c.in-Ok-Some.ensures.best in
    half_told c.args.artery.now c.args.timing.now c.in-Ok-Some.made c.tell_plan.result c.in-Ok-Some.ensures.base c.in-Ok-Some.ensures.ready best c.tell_plan.ensures
