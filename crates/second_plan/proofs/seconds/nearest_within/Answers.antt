use Rattle.std.proofs.Common.{arith}
use Rattle.std.proofs.lemmas.Grind.{common_steps}
use Rattle.second_plan.proofs.seconds.nearest_within.Goals as goal

pub returns-then-rounded-from : goal.returns-then-rounded-from
returns-then-rounded-from c = grind (arith, common_steps)

pub returns-then-from-rounded : goal.returns-then-from-rounded
returns-then-from-rounded c = grind (arith, common_steps)
