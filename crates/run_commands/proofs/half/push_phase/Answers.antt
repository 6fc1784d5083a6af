use Rattle.std.proofs.Common.{arith}
use Rattle.std.proofs.lemmas.Grind.{common_steps}
use Rattle.run_commands.proofs.half.push_phase.Goals as goal

pub returns : goal.returns
returns c = grind (arith, common_steps)
