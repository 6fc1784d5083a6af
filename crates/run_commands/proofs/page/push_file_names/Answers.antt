use Rattle.std.proofs.Common.{arith}
use Rattle.std.proofs.lemmas.Grind.{common_steps, elements}
use Rattle.run_commands.proofs.page.push_file_names.Goals as goal

pub loop-reader-preserved : goal.loop-reader-preserved
loop-reader-preserved c = grind (arith, common_steps)

pub returns : goal.returns
returns c = grind (arith, elements)
