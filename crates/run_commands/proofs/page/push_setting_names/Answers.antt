use Rattle.std.proofs.Common.{arith}
use Rattle.std.proofs.lemmas.Grind.{common_steps, elements}
use Rattle.run_commands.proofs.page.push_setting_names.Goals as goal

pub loop-setting-preserved : goal.loop-setting-preserved
loop-setting-preserved c = grind (arith, common_steps)

pub returns : goal.returns
returns c = grind (arith, elements)
