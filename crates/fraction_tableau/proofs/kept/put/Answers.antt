use Rattle.std.proofs.Common.{◌+◌, length, take, sym, ◌∙◌, ap, arith}
use Rattle.std.proofs.lemmas.List.{take-set, take_more_set, append-nil}
use Rattle.fraction_tableau.proofs.KeptCells.{both_written, clash, kept_zero, kept_some}
use Rattle.fraction_tableau.proofs.kept.put.Goals as goal

pub returns-then-is_zero-clause-count : goal.returns-then-is_zero-clause-count
returns-then-is_zero-clause-count c =
    let z = ap length (kept_zero c.args.kept.place c.args.kept.cell (c.is_zero-is_zero.ensures.0 c.if-is_zero.true)) in
    omega arith

pub returns-then-is_zero-clause-cells : goal.returns-then-is_zero-clause-cells
returns-then-is_zero-clause-cells c =
    rw (kept_zero c.args.kept.place c.args.kept.cell (c.is_zero-is_zero.ensures.0 c.if-is_zero.true))
    (ap (take c.args.made) (both_written c.args.cells.now c.args.made _ _ _ c.requires) ∙ take-set c.args.cells.now c.args.made _ ∙ sym (append-nil (take c.args.made c.args.cells.now)))

pub returns-else-is_zero-clause-count : goal.returns-else-is_zero-clause-count
returns-else-is_zero-clause-count c =
    let z = ap length (kept_some c.args.kept.place c.args.kept.cell (λ e. clash (c.is_zero-is_zero.ensures.1 e) c.if-is_zero.false)) in
    omega arith

pub returns-else-is_zero-clause-cells : goal.returns-else-is_zero-clause-cells
returns-else-is_zero-clause-cells c =
    rw (kept_some c.args.kept.place c.args.kept.cell (λ e. clash (c.is_zero-is_zero.ensures.1 e) c.if-is_zero.false))
    (ap (take (c.args.made + 1)) (both_written c.args.cells.now c.args.made _ _ _ c.requires) ∙ take_more_set c.args.cells.now c.args.made _ c.requires)
