use Rattle.std.proofs.Common.{codes}
use Rattle.std.proofs.lemmas.Result.{on_ok_weaker}
use Rattle.progression.specs.TimingRecord.{base}
use Rattle.diagram_print.specs.Measures.{measure_lines}
use Rattle.diagram_print.specs.Offsets.{signal_lines}
use Rattle.diagram_print.specs.Speeds.{link_lines}
use Rattle.diagram_print.specs.Diagram.{diagram_lines}
use Rattle.quantity_text.proofs.Pushed.{five_pushed}
use Rattle.diagram_print.proofs.lines.push_timing_lines.Goals as goal

pub returns : goal.returns
returns c =
    let a = c.args.artery.now in
    let t = c.args.timing.now in
    let whole = five_pushed c.args.out.now.items _ _ _ _ c.push_diagram.new.out.items (measure_lines a t) (signal_lines a (base t)) (link_lines a (base t)) (codes "diagram\n") (diagram_lines a t)
    c.in_ok-push_measure_lines.ensures (rw c.base-base.ensures at c.in_ok-push_signal_lines.ensures)
    (rw c.base-base.ensures at c.in_ok-push_link_lines.ensures) c.in_ok-push_text.ensures in
    on_ok_weaker c.push_diagram.result whole c.push_diagram.ensures
