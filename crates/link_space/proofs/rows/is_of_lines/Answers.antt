use Rattle.std.proofs.Common.{arith}
use Rattle.std.proofs.lemmas.Grind.{common_steps}
use Rattle.link_space.proofs.rows.is_of_lines.Goals as goal

pub returns-in-3 : goal.returns-in-3
returns-in-3 c = grind (arith, common_steps)

pub returns-in-3-2 : goal.returns-in-3-2
returns-in-3-2 c = grind (arith, common_steps)
