-- The rows of an artery are a table.
use Rattle.progression.specs.Street.{Street}
use Rattle.linear_theory.specs.Rows.{goal_form}
use Rattle.linear_theory.specs.Names.{form_of, name_of}
use Rattle.fraction_tableau.specs.NamedTableaus.{name_in}
use Rattle.program_builder.specs.BoxRows.{rows_of}
use Rattle.program_builder.specs.ProgramTable.{IsTable}
use Rattle.program_builder.specs.Opening.{artery_table}
use Rattle.program_builder.proofs.LineCells.{line_width}
use Rattle.program_builder.proofs.RowOrder.{rows_ascending}

pub artery_is_table : (a : Street) → IsTable (artery_table a)
artery_is_table a = record {
  ascending = rows_ascending a;
  rows = λ box k h. line_width a (form_of a box (name_of (name_in (rows_of a) k).family (name_in (rows_of a) k).index));
  goal = line_width a (goal_form a);
}
