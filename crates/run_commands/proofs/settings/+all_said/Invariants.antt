use Rattle.std.proofs.Common.{length}
use Rattle.run_commands.proofs.settings.+all_said.Given as goal

abbrev pub decreases-all_said : goal.decreases-all_said
decreases-all_said l = length l.kinds.now
