use Rattle.dual_simplex.proofs.Entries.{Looking}
use Rattle.dual_simplex.proofs.choose.chosen_place.Given as goal

abbrev pub invariant-loop-index : goal.invariant-loop-index
invariant-loop-index l = Looking l.tableau.table l.row l.index l.best
