use Rattle.std.proofs.Common.{arith}
use Rattle.std.proofs.lemmas.Grind.{common_steps}
use Rattle.description_reader.proofs.read.judge.Goals as goal

pub returns-in_err-check_values : goal.returns-in_err-check_values
returns-in_err-check_values c = grind (arith, common_steps)

pub returns : goal.returns
returns c = grind (arith, common_steps)
