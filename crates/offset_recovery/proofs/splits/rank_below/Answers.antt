use Rattle.std.proofs.Common.{arith}
use Rattle.std.proofs.lemmas.Grind.{common_steps}
use Rattle.offset_recovery.proofs.splits.rank_below.Goals as goal

pub returns : goal.returns
returns c = grind (arith, common_steps)
