use Rattle.std.proofs.Common.{arith}
use Rattle.description_reader.proofs.Views.{view_of_table}
use Rattle.description_reader.proofs.read.read_root.Goals as goal

pub returns-in-Ok-table_from_str : goal.returns-in-Ok-table_from_str
returns-in-Ok-table_from_str c = grind (arith, view_of_table)
