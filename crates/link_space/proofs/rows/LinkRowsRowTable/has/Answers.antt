use Rattle.link_space.proofs.LinkRowTests.{link_row_tested}
use Rattle.link_space.proofs.rows.LinkRowsRowTable.has.Goals as goal

pub returns : goal.returns
returns c = link_row_tested c.args.self.now.artery.now c.args.row c.has_link_row.result c.has_link_row.ensures
