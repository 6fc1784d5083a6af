-- A table of rows over boxes: how wide its rows are, their names in their order, the row of a name for a box, and a goal.
use Rattle.std.specs.Prelude.{◌≡◌, ℕ, suc, ◌<◌, List, map, length}
use Rattle.rational_theory.specs.Rational.{ℚ}
use Rattle.rational_theory.specs.Rows as maths
use Rattle.linear_theory.specs.Boxes.{Area}
use Rattle.named_row.specs.Sheets.{row_of}
use Rattle.named_row.specs.declared.names.RowId.{RowId}
use Rattle.loop_rows.specs.RowSets.{RowSet}
use Rattle.fraction_tableau.specs.NamedTableaus.{name_in}
use Rattle.program_builder.specs.BoxRows.{names_through}
use Rattle.program_builder.specs.RowOrder.{IsAscending}

pub record ProgramTable : Type 0 where
  pub columns : ℕ
  pub names : List RowId
  pub row : Area → RowId → maths.Row
  pub goal : List ℚ

-- all rows of a box in the order of their names
abbrev pub rows_in : ProgramTable → Area → List maths.Row
rows_in p box = map (p.row box) p.names

-- the names are strictly ascending, and each row and the goal has a number for each column
pub record IsTable (p : ProgramTable) : Type 0 where
  pub ascending : IsAscending p.names
  pub rows : (box : Area) (k : ℕ) → k < length p.names → length (p.row box (name_in p.names k)).coefs ≡ p.columns
  pub goal : length p.goal ≡ p.columns

-- that of a set of rows, whose families are numbered from 1 on
abbrev pub program_table : RowSet → ProgramTable
program_table set = record {
  columns = set.width;
  names = names_through set.has (suc set.last_index) set.last_family;
  row = λ box r. row_of (set.row box r);
  goal = set.goal.coefs;
}
