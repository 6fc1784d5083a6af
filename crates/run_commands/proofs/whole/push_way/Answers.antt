use Rattle.std.proofs.lemmas.Result.{on_ok_weaker}
use Rattle.run_commands.proofs.Pushed.{two_pushed}
use Rattle.run_commands.proofs.whole.push_way.Goals as goal

pub returns : goal.returns
returns c = on_ok_weaker c.push_measures.result (two_pushed _ _ _ _ _ (rw c.base.ensures at c.in_ok-push_link_lines.ensures)) c.push_measures.ensures
