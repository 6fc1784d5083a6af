use Rattle.std.proofs.Common.{length, ◌≤◌}
use Rattle.simplex_theory.specs.Tableau.{width}
use Rattle.dual_leaf.specs.Leaves.{row_or_goal}
use Rattle.dual_leaf.proofs.Written.{Slacks}
use Rattle.dual_leaf.proofs.values.put_slacks.Given as goal

abbrev pub invariant-loop-col : goal.invariant-loop-col
invariant-loop-col l = record {
  within : l.col ≤ width l.tableau.table;
  written : Slacks (width l.tableau.table) (row_or_goal l.tableau.table l.row) l.tableau.table.standing (length l.fn.cells) l.cells l.col;
}

abbrev pub decreases-loop-col : goal.decreases-loop-col
decreases-loop-col l = l.col
