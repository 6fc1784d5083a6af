use Rattle.fraction_tableau.specs.KeptCells.{number_in}
use Rattle.fraction_tableau.proofs.KeptCells.{Reached}
use Rattle.fraction_tableau.proofs.sparse_row.SparseRow.find.Given as goal

abbrev pub invariant-loop-kept : goal.invariant-loop-kept
invariant-loop-kept l = Reached (number_in l.self) l.place l.kept-index
