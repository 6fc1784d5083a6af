use Rattle.std.proofs.Common.{arith}
use Rattle.std.proofs.lemmas.Grind.{common_steps}
use Rattle.offset_recovery.proofs.splits.is_ranked.Goals as goal

pub overflow_cast-span : goal.overflow_cast-span
overflow_cast-span c = grind (arith, common_steps)

pub overflow_cast-span-2 : goal.overflow_cast-span-2
overflow_cast-span-2 c = grind (arith, common_steps)
