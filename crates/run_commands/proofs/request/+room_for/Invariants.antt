use Rattle.std.proofs.Common.{length}
use Rattle.run_commands.proofs.request.+room_for.Given as goal

abbrev pub decreases-room_for : goal.decreases-room_for
decreases-room_for l = length l.names.now
