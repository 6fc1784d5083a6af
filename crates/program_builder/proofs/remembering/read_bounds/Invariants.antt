use Rattle.program_builder.proofs.WrittenBounds.{AreWritten}
use Rattle.std.proofs.Common.{ℕ, ◌<◌}
use Rattle.simplex_theory.specs.Tableau.{width}
use Rattle.fraction_tableau.specs.KeptCells.{number_in}
use Rattle.fraction_tableau.specs.NamedTableaus.{number_at}
use Rattle.narrow_fraction.specs.Fraction.{FitsFrac}
use Rattle.program_builder.proofs.remembering.read_bounds.Given as goal

abbrev pub invariant-loop-line : goal.invariant-loop-line
invariant-loop-line l = record {
  written : AreWritten (λ i. number_at l.tableau.table i (width l.tableau.table)) l.fn.bounds l.bounds l.line;
  fits : (i : ℕ) → i < l.line → FitsFrac (number_in l.bounds i);
}
