use Rattle.std.proofs.Common.{List, [], ◌∷◌, length, ap, ◌∙◌}
use Rattle.linear_theory.specs.Rows.{Cell}
use Rattle.named_row.specs.Sheets.{Sheet}
use Rattle.loop_rows.specs.laws.Writing.{written_cells_unspent}
use Rattle.loop_rows.proofs.rows.fill_goal.Goals as goal

pub returns-clause-unspent : goal.returns-clause-unspent
returns-clause-unspent c =
    let cells : List Cell = (c.band_column.result, c.whole.result) ∷ (c.band_column-2.result, c.ratio.result) ∷ [] in
    ap (λ (r : Sheet). r.spent) c.fill_cells.ensures.row ∙ written_cells_unspent (length c.args.into.now.coefs) cells c.whole-2.result
