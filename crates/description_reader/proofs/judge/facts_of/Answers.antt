use Rattle.std.proofs.Common.{arith}
use Rattle.std.proofs.lemmas.Grind.{common_steps}
use Rattle.description_reader.proofs.judge.facts_of.Goals as goal

pub returns : goal.returns
returns c = grind (arith, common_steps)
