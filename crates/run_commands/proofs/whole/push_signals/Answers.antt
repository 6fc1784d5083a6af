use Rattle.std.proofs.Common.{arith}
use Rattle.run_commands.proofs.Pushed.{pushed_next}
use Rattle.run_commands.proofs.whole.push_signals.Goals as goal

pub loop-signal-preserved : goal.loop-signal-preserved
loop-signal-preserved c = grind (arith, pushed_next)
