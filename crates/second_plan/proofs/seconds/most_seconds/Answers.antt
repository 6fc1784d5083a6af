use Rattle.std.proofs.Common.{arith}
use Rattle.second_plan.proofs.Rounding.{most_is}
use Rattle.second_plan.proofs.seconds.most_seconds.Goals as goal

pub returns : goal.returns
returns c = grind (arith, most_is)
