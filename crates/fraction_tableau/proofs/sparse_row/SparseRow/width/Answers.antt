use Rattle.std.proofs.Common.{arith}
use Rattle.fraction_tableau.proofs.KeptCells.{open_row}
use Rattle.fraction_tableau.proofs.sparse_row.SparseRow.width.Goals as goal

pub returns : goal.returns
returns c =
    let r = open_row _ _ _ _ _ c.self.invariant.0 c.self.view_is in
    let w = r.wide in
    omega (arith, c.len.ensures, c.self.inside.cells.ok.0)
