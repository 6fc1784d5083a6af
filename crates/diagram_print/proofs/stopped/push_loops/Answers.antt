use Rattle.std.proofs.Common.{◌++◌, flat_map, ap, ◌∙◌, arith}
use Rattle.std.proofs.lemmas.List.{take_all}
use Rattle.linear_theory.specs.Boxes.{no_span}
use Rattle.diagram_print.specs.Report.{span_text}
use Rattle.quantity_text.proofs.Pushed.{one_more}
use Rattle.diagram_print.proofs.Spans.{next_piece}
use Rattle.diagram_print.proofs.stopped.push_loops.Goals as goal

pub loop-link-preserved : goal.loop-link-preserved
loop-link-preserved c =
    let next = next_piece span_text c.args.area.now.loops c.loop-link.link no_span (omega arith) (omega arith) in
    one_more c.args.out.now.items _ _ _ _ _ c.loop-link.invariant (c.in_ok-push_span.ensures ∙ ap (λ s. c.loop-link.out.items ++ span_text s) c.loop_span.ensures) next

pub returns : goal.returns
returns c =
    c.loop-link.invariant ∙ ap (λ spans. c.args.out.now.items ++ flat_map span_text spans) (take_all _ c.args.area.now.loops (omega arith))
