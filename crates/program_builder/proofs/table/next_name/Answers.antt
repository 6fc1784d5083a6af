use Rattle.program_builder.proofs.RowSets.{next_in_set}
use Rattle.program_builder.proofs.table.next_name.Goals as goal

pub returns : goal.returns
returns g c = next_in_set (g.R.RowTable.rows c.args.rows.now) c.known_rows.ensures c.args.after c.next_in.result c.next_in.ensures
