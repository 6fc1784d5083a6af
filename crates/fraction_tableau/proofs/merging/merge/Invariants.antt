use Rattle.std.proofs.Common.{◌≡◌, length}
use Rattle.fraction_tableau.specs.KeptCells.{number_in, kept_below, IsMerged}
use Rattle.fraction_tableau.proofs.merging.merge.Given as goal

abbrev pub invariant-loop-index : goal.invariant-loop-index
invariant-loop-index l = record {
  merged : IsMerged l.clearing.number l.clearing.own.place l.clearing.own.cell l.divided l.row l.cells l.done;
  index : l.index ≡ length (kept_below (number_in l.divided) l.done.below);
}
