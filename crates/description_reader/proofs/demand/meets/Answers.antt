use Rattle.std.proofs.Common.{arith}
use Rattle.std.proofs.lemmas.Grind.{common_steps}
use Rattle.description_reader.proofs.demand.meets.Goals as goal

pub returns-then-least-count : goal.returns-then-least-count
returns-then-least-count c = grind (arith, common_steps)

pub returns-else-least-count : goal.returns-else-least-count
returns-else-least-count c = grind (arith, common_steps)
