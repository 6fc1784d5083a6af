use Rattle.std.proofs.Common.{arith}
use Rattle.std.proofs.lemmas.Grind.{elements}
use Rattle.run_commands.specs.Help.{statuses_line}
use Rattle.run_commands.proofs.help.help_text.Goals as goal

pub returns : goal.returns
unfolding statuses_line
returns c = grind (arith, elements)
