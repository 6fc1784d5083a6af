use Rattle.program_builder.proofs.RowSets.{set_is_table, set_few}
use Rattle.program_builder.proofs.table.known_table.Goals as goal

pub returns-clause-table : goal.returns-clause-table
returns-clause-table g c = set_is_table (g.R.RowTable.rows c.args.rows.now) c.known_rows.ensures

pub returns-clause-few : goal.returns-clause-few
returns-clause-few g c = set_few (g.R.RowTable.rows c.args.rows.now) c.known_rows.ensures
