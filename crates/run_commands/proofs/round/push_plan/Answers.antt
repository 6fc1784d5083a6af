use Rattle.std.proofs.Common.{◌∙◌, ◌++◌, ℕ, List, ap}
use Rattle.std.proofs.lemmas.Result.{on_ok_weaker}
use Rattle.progression.specs.declared.parts.Dir.TheVariants.{Outbound, Inbound}
use Rattle.diagram_print.specs.Measures.{band_line, weighted_line}
use Rattle.run_commands.specs.Round.{whole_cycle_line, offset_lines, loss_line}
use Rattle.run_commands.proofs.Pushed.{plan_pushed}
use Rattle.run_commands.proofs.round.push_plan.Goals as goal

pub returns : goal.returns
returns c =
    let a = c.args.artery.now in
    let p = c.args.plan.now in
    let offsets = c.in_ok-push_offsets.ensures ∙ ap (λ (ns : List ℕ). c.push_number_line.new.out.items ++ offset_lines a ns) c.as_slice.ensures.value in
    on_ok_weaker c.push_exact_line.result
    (plan_pushed c.args.out.now.items (whole_cycle_line p.seconds) (offset_lines a p.offsets.items) (band_line a p.timing Outbound) (band_line a p.timing Inbound)
    (weighted_line a p.timing) (loss_line p.loss) _ _ _ _
    c.in_ok-push_number_line.ensures offsets c.in_ok-push_measures.ensures)
    c.push_exact_line.ensures
