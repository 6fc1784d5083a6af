use Rattle.std.proofs.Common.{◌≡◌, ℕ, length, ◌≤◌}
use Rattle.fraction_tableau.specs.KeptCells.{number_in}
use Rattle.fraction_tableau.specs.Columns.{AreNoted}
use Rattle.fraction_tableau.proofs.Others.{Others}
use Rattle.fraction_tableau.proofs.exchanging.clear_others.Given as goal

abbrev pub invariant-loop-index : goal.invariant-loop-index
invariant-loop-index l = record {
  others : Others l.pivot.row l.pivot.place l.divided l.pivot.cell l.fn.sparse_rows l.sparse_rows l.index;
  room : length l.room ≡ length l.fn.room;
  noted : AreNoted l.fn.sparse_rows l.pivot.place l.index l.column;
  later : (k : ℕ) → length l.fn.sparse_rows ≤ k → number_in l.column k ≡ number_in l.fn.column k;
}
