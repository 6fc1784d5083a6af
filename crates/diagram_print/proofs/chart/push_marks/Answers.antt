use Rattle.std.proofs.Common.{◌++◌, ◌∷◌, [], ap, ◌∙◌, arith}
use Rattle.std.proofs.lemmas.List.FromFn.{map-range_with_len_more}
use Rattle.diagram_print.specs.Diagram.{mark_at}
use Rattle.quantity_text.proofs.Pushed.{one_more}
use Rattle.diagram_print.proofs.chart.push_marks.Goals as goal

pub loop-place-preserved : goal.loop-place-preserved
loop-place-preserved c =
    let k = c.loop-place.place in
    let next = map-range_with_len_more (mark_at c.args.artery.now c.args.timing.now c.args.dir c.args.signal) 0 k k (omega arith) in
    one_more c.args.out.now.items _ _ _ _ _ c.loop-place.invariant (c.in_ok-push.ensures.items ∙ ap (λ x. c.loop-place.out.items ++ x ∷ []) c.mark_at.ensures) next
