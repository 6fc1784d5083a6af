use Rattle.link_space.proofs.LinkRowTests.{link_row_tested}
use Rattle.link_space.proofs.rows.LinkRowsRowTable.fill.Goals as goal

pub returns-clause-there : goal.returns-clause-there
returns-clause-there c = link_row_tested c.args.self.now.artery.now c.args.row c.fill_link_row.result c.fill_link_row.ensures.there
