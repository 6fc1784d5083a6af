use Rattle.std.proofs.Common.{◌≡◌, take}
use Rattle.fraction_tableau.proofs.basis.basic_variables.Given as goal

abbrev pub invariant-loop-row : goal.invariant-loop-row
invariant-loop-row l = l.list.items ≡ take l.row l.tableau.table.basic
