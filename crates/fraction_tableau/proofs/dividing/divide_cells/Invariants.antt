use Rattle.std.proofs.Common.{length}
use Rattle.fraction_tableau.proofs.Merges.{Dividing}
use Rattle.fraction_tableau.proofs.dividing.divide_cells.Given as goal

abbrev pub invariant-loop-index : goal.invariant-loop-index
invariant-loop-index l = Dividing l.number l.own.place l.own.cell l.row (length l.fn.cells) l.cells l.index l.made
