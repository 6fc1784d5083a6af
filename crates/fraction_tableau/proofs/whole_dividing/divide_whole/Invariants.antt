use Rattle.std.proofs.Common.{length}
use Rattle.rational_theory.specs.Rational.{inverse_ℚ}
use Rattle.fraction_tableau.specs.KeptCells.{number_in}
use Rattle.fraction_tableau.proofs.Merges.{Dividing}
use Rattle.fraction_tableau.proofs.whole_dividing.divide_whole.Given as goal

abbrev pub invariant-loop-index : goal.invariant-loop-index
invariant-loop-index l = Dividing 0 l.dividing.place (inverse_ℚ (number_in l.row l.dividing.place)) l.row (length l.fn.cells) l.cells l.index l.made
