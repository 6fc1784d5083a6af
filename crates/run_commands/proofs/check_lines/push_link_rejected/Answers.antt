use Rattle.std.proofs.Common.{arith}
use Rattle.std.proofs.lemmas.Grind.{elements}
use Rattle.run_commands.proofs.check_lines.push_link_rejected.Goals as goal

pub returns-in-SplitOutside : goal.returns-in-SplitOutside
returns-in-SplitOutside c = grind (arith, elements)
