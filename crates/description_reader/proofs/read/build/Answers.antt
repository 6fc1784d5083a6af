use Rattle.std.proofs.Common.{arith}
use Rattle.std.proofs.lemmas.Grind.{common_steps}
use Rattle.description_reader.proofs.read.build.Goals as goal

pub returns-in_err-signals : goal.returns-in_err-signals
returns-in_err-signals c = grind (arith, common_steps)
