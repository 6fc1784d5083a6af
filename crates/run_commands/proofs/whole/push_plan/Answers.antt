use Rattle.std.proofs.Common.{◌∙◌, ◌++◌, ℕ, List, ap}
use Rattle.std.proofs.lemmas.Result.{on_ok_weaker}
use Rattle.run_commands.specs.Round.{whole_cycle_line, loss_line}
use Rattle.run_commands.specs.Whole.{signal_lines, way_lines}
use Rattle.run_commands.proofs.Pushed.{four_pushed}
use Rattle.run_commands.proofs.whole.push_plan.Goals as goal

pub returns : goal.returns
returns c =
    let a = c.args.artery.now in
    let p = c.args.plan.now in
    let signals = c.in_ok-push_signals.ensures ∙ ap (λ (ns : List ℕ). c.push_number_line.new.out.items ++ signal_lines a p.timing ns) c.as_slice.ensures.value in
    on_ok_weaker c.push_exact_line.result
    (four_pushed c.args.out.now.items (whole_cycle_line p.seconds) (signal_lines a p.timing p.offsets.items) (way_lines a p.timing) (loss_line p.loss) _ _ _ _
    c.in_ok-push_number_line.ensures signals c.in_ok-push_way.ensures)
    c.push_exact_line.ensures
