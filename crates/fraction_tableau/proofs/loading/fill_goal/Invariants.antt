use Rattle.std.proofs.Common.{length}
use Rattle.rational_theory.specs.Rational.{neg_ℚ}
use Rattle.fraction_tableau.specs.KeptCells.{number_in}
use Rattle.fraction_tableau.proofs.Filling.{Filled}
use Rattle.fraction_tableau.proofs.loading.fill_goal.Given as goal

abbrev pub invariant-loop-place : goal.invariant-loop-place
invariant-loop-place l = Filled (λ m. neg_ℚ (number_in l.from.coefs m)) (length l.fn.cells) l.cells l.place l.made
