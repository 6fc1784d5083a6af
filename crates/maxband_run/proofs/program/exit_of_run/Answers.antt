use Rattle.std.proofs.Common.{arith}
use Rattle.std.proofs.lemmas.Grind.{common_steps}
use Rattle.maxband_run.proofs.program.exit_of_run.Goals as goal

pub returns : goal.returns
returns g c = grind (arith, common_steps)
