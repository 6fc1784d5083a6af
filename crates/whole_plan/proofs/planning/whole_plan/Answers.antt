use Rattle.whole_plan.proofs.Finishing.{all_good, all_best, all_losses}
use Rattle.whole_plan.proofs.planning.whole_plan.Goals as goal

pub returns-in-Ok-clause-good : goal.returns-in-Ok-clause-good
returns-in-Ok-clause-good c = all_good c.args.artery.now c.args.claim c.args.given.now c.args.cycles.now c.in-Ok.so_far c.in-Ok.ensures c.finished.result c.finished.ensures.plan

pub returns-in-Ok-clause-best : goal.returns-in-Ok-clause-best
returns-in-Ok-clause-best c = all_best c.args.artery.now c.args.claim c.args.given.now c.args.cycles.now c.in-Ok.so_far c.in-Ok.ensures c.finished.result c.finished.ensures.plan

pub returns-in-Ok-clause-loss : goal.returns-in-Ok-clause-loss
returns-in-Ok-clause-loss c = all_losses c.args.artery.now c.args.claim c.args.given.now c.args.cycles.now c.in-Ok.so_far c.in-Ok.ensures c.finished.result c.finished.ensures.plan
