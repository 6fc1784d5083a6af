-- The rows of links of an artery as a table: which there are in the order of their names, the row of a name for a box, and the value of links as the goal.
use Rattle.std.specs.Prelude.{suc, Bool, List}
use Rattle.rational_theory.specs.Rows as maths
use Rattle.progression.specs.Street.{Street, count}
use Rattle.linear_theory.specs.Boxes.{Area}
use Rattle.named_row.specs.declared.names.RowId.{RowId}
use Rattle.simplex_theory.specs.Tableau.{Tableau}
use Rattle.program_builder.specs.BoxRows.{names_through}
use Rattle.program_builder.specs.ProgramTable.{ProgramTable, rows_in}
use Rattle.program_builder.specs.Loading.{loaded_table}
use Rattle.link_theory.specs.LinkColumns.{link_width}
use Rattle.link_theory.specs.LinkRows.{link_goal}
use Rattle.link_theory.specs.LinkNames.{last_link_family, link_row}
use Rattle.link_space.specs.LinkRowTests.{has_link_row}
use Rattle.link_space.specs.LinkWeights.{link_name_at}

-- whether an artery has the row
abbrev pub is_link_there : Street → RowId → Bool
is_link_there a r = has_link_row a (link_name_at r)

-- no index is above the number of signals
unfoldable pub names_of_links : Street → List RowId
names_of_links a = names_through (is_link_there a) (suc (count a)) last_link_family

-- the row of a name for a box
abbrev pub link_row_for : Street → Area → RowId → maths.Row
link_row_for a box r = link_row a box (link_name_at r)

abbrev pub link_table : Street → ProgramTable
link_table a = record { columns = link_width (count a); names = names_of_links a; row = link_row_for a; goal = link_goal a }

-- all rows of the box in the order of their names
abbrev pub link_box_rows : Street → Area → List maths.Row
link_box_rows a box = rows_in (link_table a) box

-- with their slacks basic, and the goal
abbrev pub link_loaded : Street → Area → Tableau
link_loaded a box = loaded_table (link_table a) box
