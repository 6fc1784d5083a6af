use Rattle.std.proofs.Common.{◌≡◌, length, ◌-◌, ◌∙◌, ap, arith}
use Rattle.fraction_tableau.specs.KeptCells.{number_in}
use Rattle.fraction_tableau.proofs.KeptCells.{open_row}
use Rattle.fraction_tableau.proofs.sparse_row.SparseRow.held_bound.Goals as goal

pub returns : goal.returns
returns c =
    let r = open_row _ _ _ _ _ c.self.invariant.0 c.self.view_is in
    let w = r.wide in
    let e : length c.self.inside.cells.items ≡ length c.args.self.now - 1 = omega arith in
    c.copied.ensures ∙ r.bound ∙ ap (number_in c.args.self.now) e
