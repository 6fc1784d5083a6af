use Rattle.std.proofs.Common.{◌+◌, ◌++◌, sym, ap, ◌∙◌, append-nil, arith}
use Rattle.progression.specs.Street.{count}
use Rattle.diagram_print.specs.Diagram.{signal_rows}
use Rattle.timing_measures.proofs.Pieces.{none_down, piece_down, all_down}
use Rattle.quantity_text.proofs.Pushed.{one_more}
use Rattle.diagram_print.proofs.chart.push_diagram.Goals as goal

pub loop-signal-init : goal.loop-signal-init
loop-signal-init c =
    let a = c.args.artery.now in
    let old = c.args.out.now.items in
    let none = none_down (signal_rows a c.args.timing.now) (count a) (c.count-signal.result + 1) (omega arith) in
    (omega arith, sym (append-nil old) ∙ ap (λ y. old ++ y) (sym none))

pub loop-signal-preserved : goal.loop-signal-preserved
loop-signal-preserved c =
    let a = c.args.artery.now in
    let next = piece_down (signal_rows a c.args.timing.now) (count a) c.loop-signal.signal (omega arith) (omega arith) in
    (omega arith, one_more c.args.out.now.items _ _ _ _ _ c.loop-signal.invariant.1 c.in_ok-push_signal_rows.ensures next)

pub returns : goal.returns
returns c =
    let a = c.args.artery.now in
    c.loop-signal.invariant.1 ∙ ap (λ y. c.args.out.now.items ++ y) (all_down (signal_rows a c.args.timing.now) (count a) c.loop-signal.signal (omega arith))
