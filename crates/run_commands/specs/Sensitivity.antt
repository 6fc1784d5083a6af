-- What `sensitivity` finds of an artery, what it writes, and what it puts.
use Rattle.std.specs.Prelude.{◌≡◌, ℕ, List, Option}
use Rattle.progression.specs.Street.{Street}
use Rattle.limit_sensitivity.specs.declared.row.SensitivityRow.{SensitivityRow}
use Rattle.limit_sensitivity.specs.Rows.{AreRows}
use Rattle.limit_sensitivity.specs.Report.{sensitivity_lines}
use Rattle.limit_sensitivity.specs.Table.{sensitivity_text}
use Rattle.run_inputs.specs.declared.cause.Cause.{Cause}
use Rattle.run_inputs.specs.declared.cause.Cause.TheVariants as cause

-- a row for each change of the street, each of a search within this limit, the lines and the table of them
pub record IsSensitivity (a : Street) (limit : Option ℕ) (c : Cause) (lines table : List ℕ) : Type 0 where
  pub rows : List SensitivityRow
  pub rows_are : AreRows a limit rows
  pub cause_is : c ≡ cause.Done
  pub lines_are : lines ≡ sensitivity_lines a rows
  pub table_is : table ≡ sensitivity_text a rows
