use Rattle.std.proofs.lemmas.Result.{on_ok_weaker}
use Rattle.progression.specs.TimingRecord.{base}
use Rattle.diagram_draw.specs.Captions.{above, below, beside, captions, marks}
use Rattle.diagram_draw.proofs.Chains.{four_rows}
use Rattle.diagram_draw.proofs.captions.push_captions.Goals as goal

pub returns : goal.returns
unfolding captions
returns c =
    let f = c.args.frame in
    let a = c.args.artery.now in
    let t = c.args.timing.now in
    let b = base t in
    on_ok_weaker c.push_below.result
    (four_rows _ _ _ _ _ (above f a) (beside f a b) (marks f a t) (below f a b) c.in_ok-push_above.ensures
    (rw c.base-base.ensures at c.in_ok-push_beside.ensures) c.in_ok-push_marks.ensures)
    (rw c.base-base.ensures at c.push_below.ensures)
