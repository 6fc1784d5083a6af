use Rattle.std.proofs.Common.{length}
use Rattle.fraction_tableau.proofs.Filling.{Counted}
use Rattle.fraction_tableau.proofs.loading.count_up.Given as goal

abbrev pub invariant-loop-place : goal.invariant-loop-place
invariant-loop-place l = Counted (length l.fn.numbers) l.numbers l.place
