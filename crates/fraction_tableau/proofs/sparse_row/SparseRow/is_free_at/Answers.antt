use Rattle.std.proofs.Common.{sym, arith}
use Rattle.fraction_tableau.proofs.KeptCells.{open_row}
use Rattle.fraction_tableau.proofs.Marking.{unmarked}
use Rattle.fraction_tableau.proofs.sparse_row.SparseRow.is_free_at.Goals as goal

pub returns : goal.returns
returns c =
    let wide = (open_row _ _ _ _ _ c.self.invariant.0 c.self.view_is).wide in
    λ free. sym (unmarked _ _ _ _ _ _ c.self.invariant.1.1 c.self.view_is (omega (arith, c.requires)) (c.is_free.ensures free))
