use Rattle.dual_simplex.proofs.Entries.{Clear}
use Rattle.dual_simplex.proofs.choose.has_negative.Given as goal

abbrev pub invariant-loop-index : goal.invariant-loop-index
invariant-loop-index l = Clear l.tableau.table l.row l.index
