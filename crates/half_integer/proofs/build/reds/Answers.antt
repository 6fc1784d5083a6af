use Rattle.std.proofs.Common.{arith}
use Rattle.half_integer.proofs.Lists.{list_none}
use Rattle.half_integer.proofs.build.reds.Goals as goal

pub loop-place-preserved : goal.loop-place-preserved
loop-place-preserved c = grind (arith, list_none)
