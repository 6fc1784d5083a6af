use Rattle.loop_rows.proofs.LeafSums.{row_tested}
use Rattle.loop_rows.proofs.rows.ArteryRowsRowTable.fill.Goals as goal

pub returns-clause-there : goal.returns-clause-there
returns-clause-there c = row_tested c.args.self.now.artery.now c.args.row c.fill_row.result c.fill_row.ensures.there
