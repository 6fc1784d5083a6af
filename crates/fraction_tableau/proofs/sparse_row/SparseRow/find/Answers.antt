use Rattle.std.proofs.Common.{length, ◌-◌, ◌∙◌, arith}
use Rattle.fraction_tableau.specs.KeptCells.{number_in}
use Rattle.fraction_tableau.proofs.KeptCells.{reached_next, reached_here, reached_past, reached_end, other_side, kept_there}
use Rattle.fraction_tableau.proofs.sparse_row.SparseRow.find.Goals as goal

pub returns-then-cells-guess : goal.returns-then-cells-guess
returns-then-cells-guess c =
    c.copied.ensures
    ∙ kept_there (number_in c.args.self.now) (length c.args.self.now - 1) c.marked_below-guess.result c.kept-cells.result.now c.index-cells-guess.result
    c.index-cells-guess-then-cells-guess.result c.args.place c.kept-cells.ensures c.if-guess-cells.true c.if-cells-guess.true

pub returns-then-kept-place-2 : goal.returns-then-kept-place-2
returns-then-kept-place-2 c =
    c.copied-then-kept-place-2.ensures
    ∙ reached_here (number_in c.args.self.now) c.args.place c.loop-kept.kept-index (length c.args.self.now - 1) c.kept-kept-items.result.now c.kept-item.result
    c.loop-kept.invariant (omega arith) c.kept-kept-items.ensures c.kept-item.is (omega arith) (omega arith)

pub returns-else-kept-place-2 : goal.returns-else-kept-place-2
returns-else-kept-place-2 c =
    c.of_fraction.ensures ∙ c.whole.ensures
    ∙ reached_past (number_in c.args.self.now) c.args.place c.loop-kept.kept-index (length c.args.self.now - 1) c.kept-kept-items.result.now c.kept-item.result
    c.loop-kept.invariant (omega arith) c.kept-kept-items.ensures c.kept-item.is (omega arith)
    (other_side _ _ c.if-kept-place.true c.if-kept-place-2.false)

pub loop-kept-preserved : goal.loop-kept-preserved
loop-kept-preserved c =
    reached_next (number_in c.args.self.now) c.args.place c.loop-kept.kept-index (length c.args.self.now - 1) c.kept-kept-items.result.now c.kept-item.result
    c.loop-kept.invariant (omega arith) c.kept-kept-items.ensures c.kept-item.is (omega arith) (omega arith)

pub returns : goal.returns
returns c =
    c.of_fraction-2.ensures ∙ c.whole-2.ensures
    ∙ reached_end (number_in c.args.self.now) c.args.place c.loop-kept.kept-index (length c.args.self.now - 1) c.kept-kept-items.result.now
    c.loop-kept.invariant (omega arith) c.kept-kept-items.ensures (omega arith)
