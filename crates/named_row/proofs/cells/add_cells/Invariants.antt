use Rattle.named_row.proofs.Columns.{Summed}
use Rattle.named_row.proofs.cells.add_cells.Given as goal

abbrev pub invariant-loop-column : goal.invariant-loop-column
invariant-loop-column l = Summed l.by l.other l.fn.coefs l.coefs l.column
