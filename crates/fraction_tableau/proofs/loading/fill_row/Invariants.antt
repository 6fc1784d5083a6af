use Rattle.std.proofs.Common.{length}
use Rattle.fraction_tableau.specs.KeptCells.{number_in}
use Rattle.fraction_tableau.proofs.Filling.{Filled}
use Rattle.fraction_tableau.proofs.loading.fill_row.Given as goal

abbrev pub invariant-loop-place : goal.invariant-loop-place
invariant-loop-place l = Filled (number_in l.from.coefs) (length l.fn.cells) l.cells l.place l.made
