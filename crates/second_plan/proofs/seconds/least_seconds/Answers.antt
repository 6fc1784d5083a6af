use Rattle.std.proofs.Common.{arith}
use Rattle.second_plan.proofs.Rounding.{least_is}
use Rattle.second_plan.proofs.seconds.least_seconds.Goals as goal

pub returns : goal.returns
returns c = grind (arith, least_is)
