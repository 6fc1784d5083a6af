use Rattle.std.proofs.Common.{length, ◌≤◌}
use Rattle.simplex_theory.specs.Tableau.{height}
use Rattle.dual_leaf.proofs.Written.{Basics}
use Rattle.dual_leaf.proofs.values.put_columns.Given as goal

abbrev pub invariant-loop-row : goal.invariant-loop-row
invariant-loop-row l = record {
  within : l.row ≤ height l.tableau.table;
  written : Basics l.tableau.table (length l.fn.values) l.values l.row;
}

abbrev pub decreases-loop-row : goal.decreases-loop-row
decreases-loop-row l = l.row
