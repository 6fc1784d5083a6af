use Rattle.std.proofs.Common.{ℕ, ◌<◌, ◌≤◌, ◌^◌}
use Rattle.fraction_tableau.specs.Scales.{IsOver, cell_at}
use Rattle.fraction_tableau.proofs.narrowing.measured.Given as goal

abbrev pub invariant-loop-index : goal.invariant-loop-index
invariant-loop-index l = record {
  least : l.denominator ≤ l.most;
  short : l.most < 2 ^ 42;
  bound : IsOver l.denominator l.most l.bound;
  cells : (i : ℕ) → i < l.index → IsOver l.denominator l.most (cell_at l.cells i);
}
