use Rattle.std.proofs.Common.{◌++◌, flat_map, ap, ◌∙◌, arith}
use Rattle.std.proofs.lemmas.List.{take_all}
use Rattle.search_box.specs.Seen.{span_of}
use Rattle.linear_theory.specs.Boxes.{no_ranks}
use Rattle.diagram_print.specs.Report.{span_text, ranks_text}
use Rattle.quantity_text.proofs.Pushed.{one_more}
use Rattle.diagram_print.proofs.Spans.{next_piece}
use Rattle.diagram_print.proofs.stopped.push_shifts.Goals as goal

pub loop-signal-preserved : goal.loop-signal-preserved
loop-signal-preserved c =
    let next = next_piece ranks_text c.args.area.now.turns c.loop-signal.signal no_ranks (omega arith) (omega arith) in
    one_more c.args.out.now.items _ _ _ _ _ c.loop-signal.invariant (c.in_ok-push_span.ensures ∙ ap (λ s. c.loop-signal.out.items ++ span_text (span_of s)) c.turn_span.ensures) next

pub returns : goal.returns
returns c =
    c.loop-signal.invariant ∙ ap (λ ranks. c.args.out.now.items ++ flat_map ranks_text ranks) (take_all _ c.args.area.now.turns (omega arith))
