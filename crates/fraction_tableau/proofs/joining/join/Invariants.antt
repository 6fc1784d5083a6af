use Rattle.std.proofs.Common.{◌≡◌, length}
use Rattle.simplex_theory.specs.Lines.{cleared}
use Rattle.fraction_tableau.specs.KeptCells.{number_in, kept_below}
use Rattle.fraction_tableau.specs.Scales.{IsJoined}
use Rattle.fraction_tableau.proofs.joining.join.Given as goal

abbrev pub invariant-loop-index : goal.invariant-loop-index
invariant-loop-index l = record {
  joined : IsJoined (cleared l.joining.place l.divided l.row) l.row l.cells l.done;
  index : l.index ≡ length (kept_below (number_in l.divided) l.done.below);
}
