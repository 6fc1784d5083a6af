use Rattle.std.proofs.Common.{arith}
use Rattle.std.proofs.lemmas.Grind.{common_steps, elements}
use Rattle.run_commands.proofs.help.push_usages.Goals as goal

pub loop-usage-preserved : goal.loop-usage-preserved
loop-usage-preserved c = grind (arith, common_steps)

pub returns : goal.returns
returns c = grind (arith, elements)
