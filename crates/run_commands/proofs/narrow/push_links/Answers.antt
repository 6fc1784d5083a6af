use Rattle.std.proofs.Common.{arith}
use Rattle.run_commands.proofs.Pushed.{pushed_next}
use Rattle.run_commands.proofs.narrow.push_links.Goals as goal

pub loop-link-preserved : goal.loop-link-preserved
loop-link-preserved c = grind (arith, pushed_next)
