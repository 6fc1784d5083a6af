use Rattle.loop_rows.proofs.LeafSums.{row_tested}
use Rattle.loop_rows.proofs.rows.ArteryRowsRowTable.has.Goals as goal

pub returns : goal.returns
returns c = row_tested c.args.self.now.artery.now c.args.row c.has_row.result c.has_row.ensures
