use Rattle.std.proofs.Common.{sym, ◌∙◌, arith}
use Rattle.program_builder.proofs.EntryPivots.{row_found, row_none}
use Rattle.program_builder.proofs.choosing.entry_row.Goals as goal

pub returns-then-can_take : goal.returns-then-can_take
returns-then-can_take c = row_found c.args.basis.now c.args.tableau.now.table c.args.column c.loop-row.row (omega arith) c.loop-row.invariant (sym c.can_take.ensures ∙ c.if-can_take.true)

pub returns : goal.returns
returns c = row_none c.args.basis.now c.args.tableau.now.table c.args.column c.rows-rows.result c.rows-rows.ensures.count (λ k l. c.loop-row.invariant k (omega arith))
