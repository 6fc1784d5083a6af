use Rattle.std.proofs.Common.{arith}
use Rattle.std.proofs.lemmas.Grind.{elements}
use Rattle.run_commands.proofs.sweep.sweep_cycles.Goals as goal

pub returns-clause-finds : goal.returns-clause-finds
returns-clause-finds c = grind (arith, elements)
