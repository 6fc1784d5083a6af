use Rattle.fraction_tableau.proofs.Copies.{IsCopied}
use Rattle.fraction_tableau.proofs.exchanging.copy_rows.Given as goal

abbrev pub invariant-loop-index : goal.invariant-loop-index
invariant-loop-index l = IsCopied l.fn.sparse_rows l.from l.sparse_rows l.index
