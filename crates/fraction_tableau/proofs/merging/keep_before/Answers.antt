use Rattle.std.proofs.Common.{length, ◌-◌, arith}
use Rattle.fraction_tableau.specs.KeptCells.{number_in}
use Rattle.fraction_tableau.proofs.Keeps.{keeping_none, keeping_stop, keeping_past}
use Rattle.fraction_tableau.proofs.merging.keep_before.Goals as goal

pub returns-else-next-place-clause-taken : goal.returns-else-next-place-clause-taken
returns-else-next-place-clause-taken c =
    let start = keeping_none (number_in c.args.row.now) c.args.done.below c.args.place c.args.done.taken c.args.done.made c.args.cells.now c.requires.order c.requires.taken c.requires.made in
    (keeping_stop _ _ _ _ _ _ _ _ (length c.args.row.now - 1) c.kept-kept.result.now c.index-kept-done.result start (omega arith) c.kept-kept.ensures
    c.index-kept-done.is (omega arith) (omega arith)).count

pub returns-else-next-place-clause-cells : goal.returns-else-next-place-clause-cells
returns-else-next-place-clause-cells c =
    let start = keeping_none (number_in c.args.row.now) c.args.done.below c.args.place c.args.done.taken c.args.done.made c.args.cells.now c.requires.order c.requires.taken c.requires.made in
    (keeping_stop _ _ _ _ _ _ _ _ (length c.args.row.now - 1) c.kept-kept.result.now c.index-kept-done.result start (omega arith) c.kept-kept.ensures
    c.index-kept-done.is (omega arith) (omega arith)).cells

pub returns-else-done-kept-clause-taken : goal.returns-else-done-kept-clause-taken
returns-else-done-kept-clause-taken c =
    let start = keeping_none (number_in c.args.row.now) c.args.done.below c.args.place c.args.done.taken c.args.done.made c.args.cells.now c.requires.order c.requires.taken c.requires.made in
    (keeping_past _ _ _ _ _ _ _ _ (length c.args.row.now - 1) c.kept-kept.result.now start (omega arith) c.kept-kept.ensures (omega arith)).1.count

pub returns-else-done-kept-clause-cells : goal.returns-else-done-kept-clause-cells
returns-else-done-kept-clause-cells c =
    let start = keeping_none (number_in c.args.row.now) c.args.done.below c.args.place c.args.done.taken c.args.done.made c.args.cells.now c.requires.order c.requires.taken c.requires.made in
    (keeping_past _ _ _ _ _ _ _ _ (length c.args.row.now - 1) c.kept-kept.result.now start (omega arith) c.kept-kept.ensures (omega arith)).1.cells
