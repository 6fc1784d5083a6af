use Rattle.std.proofs.Common.{get_or, ap, arith}
use Rattle.fraction_tableau.proofs.Marking.{none_marked, marked_next}
use Rattle.fraction_tableau.proofs.marks.marks_of.Goals as goal

pub loop-index-init : goal.loop-index-init
loop-index-init c = none_marked 0

pub loop-index-preserved : goal.loop-index-preserved
loop-index-preserved c =
    let k = get_or c.args.cells.now c.loop-index.index c.index-cells-index.result in
    marked_next _ _ _ _ k (omega arith) (ap (get_or c.args.cells.now c.loop-index.index) c.index-cells-index.is) c.loop-index.invariant c.with_mark-marks.ensures.set c.with_mark-marks.ensures.others
