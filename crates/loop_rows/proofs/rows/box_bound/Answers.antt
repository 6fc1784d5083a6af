use Rattle.std.proofs.Common.{arith}
use Rattle.std.proofs.lemmas.Grind.{common_steps}
use Rattle.loop_rows.proofs.rows.box_bound.Goals as goal

pub bound-requires-in-15 : goal.bound-requires-in-15
bound-requires-in-15 c = grind (arith, common_steps)

pub bound-requires-in-16 : goal.bound-requires-in-16
bound-requires-in-16 c = grind (arith, common_steps)

pub bound-requires : goal.bound-requires
bound-requires c = grind (arith, common_steps)
