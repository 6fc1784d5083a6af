use Rattle.std.proofs.Common.{◌≡◌}
use Rattle.fraction_tableau.proofs.narrowing.hold_where.Given as goal

abbrev pub invariant-loop-index : goal.invariant-loop-index
invariant-loop-index l = l.cells ≡ l.fn.cells
