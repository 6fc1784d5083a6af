use Rattle.program_builder.proofs.WrittenBounds.{IsPivotingBounds}
use Rattle.std.proofs.Common.{◌≡◌}
use Rattle.fraction_tableau.specs.KeptCells.{number_in}
use Rattle.program_builder.proofs.noting.NotedPivot.pivot_bounds.Given as goal

abbrev pub invariant-loop-line : goal.invariant-loop-line
invariant-loop-line l = record {
  pivoting : IsPivotingBounds l.self.row l.self.column.items l.fn.bounds l.bounds l.line;
  own : l.own ≡ number_in l.bounds l.row;
}
