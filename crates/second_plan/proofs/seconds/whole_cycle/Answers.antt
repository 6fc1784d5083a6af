use Rattle.std.proofs.Common.{arith}
use Rattle.std.proofs.lemmas.Grind.{common_steps}
use Rattle.second_plan.proofs.seconds.whole_cycle.Goals as goal

pub returns : goal.returns
returns c = grind (arith, common_steps)
