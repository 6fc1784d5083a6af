use Rattle.std.proofs.Common.{arith}
use Rattle.std.proofs.lemmas.Grind.{common_steps}
use Rattle.certificate_model.specs.Families.{ordinary}
use Rattle.run_commands.proofs.check_lines.push_rejected.Goals as goal

pub returns-in-SplitOutside : goal.returns-in-SplitOutside
unfolding ordinary
returns-in-SplitOutside c = grind (arith, common_steps)
