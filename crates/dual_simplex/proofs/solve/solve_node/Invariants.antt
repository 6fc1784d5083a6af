use Rattle.std.proofs.Common.{◌≡◌, false}
use Rattle.simplex_theory.specs.StepCounts.{steps_to_end}
use Rattle.dual_simplex.proofs.Running.{Running}
use Rattle.dual_simplex.proofs.solve.solve_node.Given as goal

abbrev pub invariant-loop-pivots : goal.invariant-loop-pivots
invariant-loop-pivots l = record {
  unspent : l.tableau.spent ≡ false;
  running : Running l.fn.tableau l.fn.pivots l.fn.meter l.tableau l.pivots l.meter;
}

abbrev pub decreases-loop-pivots : goal.decreases-loop-pivots
decreases-loop-pivots l = steps_to_end l.tableau.table
