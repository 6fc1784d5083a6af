use Rattle.std.proofs.Common.{codes}
use Rattle.std.proofs.lemmas.Result.{on_ok_weaker}
use Rattle.run_commands.specs.CheckLines.{link_failing_text}
use Rattle.quantity_text.proofs.Pushed.{three_pushed}
use Rattle.run_commands.proofs.check_lines.push_link_timing.Goals as goal

pub returns : goal.returns
returns c =
    on_ok_weaker c.push_text-2.result
    (three_pushed c.args.out.now.items _ _ _ (codes "rejected timing ") (link_failing_text c.args.failing) (codes "\n") c.in_ok-push_text.ensures c.in_ok-push_link_failing.ensures)
    c.push_text-2.ensures
