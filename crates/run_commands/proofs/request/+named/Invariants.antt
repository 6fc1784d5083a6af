use Rattle.std.proofs.Common.{length}
use Rattle.run_commands.proofs.request.+named.Given as goal

abbrev pub decreases-named : goal.decreases-named
decreases-named l = length l.usages.now
