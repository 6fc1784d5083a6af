use Rattle.program_builder.proofs.RememberedPivots.{AreBoundsAfter}
use Rattle.program_builder.proofs.remembering.pivot_all.Given as goal

abbrev pub invariant-loop-k : goal.invariant-loop-k
invariant-loop-k l = AreBoundsAfter l.basis l.tableau.table l.k l.bounds
