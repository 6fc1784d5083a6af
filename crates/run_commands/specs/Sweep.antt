-- What `sweep` finds of an artery, what it writes, and what it puts.
use Rattle.std.specs.Prelude.{◌≡◌, ℕ, List, ◌++◌, length, codes, Option}
use Rattle.std.specs.Fmt.{decimal}
use Rattle.rational_theory.specs.Rational.{ℚ}
use Rattle.progression.specs.Street.{Street}
use Rattle.cycle_sweep.specs.declared.row.SweepRow.{SweepRow}
use Rattle.cycle_sweep.specs.Rows.{AreRows}
use Rattle.cycle_sweep.specs.Table.{sweep_text}
use Rattle.run_inputs.specs.Cycles.{cycle_of, AreSpelled}
use Rattle.run_inputs.specs.declared.cause.Cause.{Cause}
use Rattle.run_inputs.specs.declared.cause.Cause.TheVariants as cause

-- how many rows the table has
abbrev pub rows_line : ℕ → List ℕ
rows_line n = codes "rows " ++ (decimal n ++ codes "\n")

-- a row for each cycle that the words spell, each of a search within this limit, and the table of them
pub record IsSweep (a : Street) (limit : Option ℕ) (words : List (List ℕ)) (c : Cause) (lines table : List ℕ) : Type 0 where
  pub cycles : List ℚ
  pub cycles_are : AreSpelled cycle_of words cycles
  pub rows : List SweepRow
  pub rows_are : AreRows a limit cycles rows
  pub cause_is : c ≡ cause.Done
  pub lines_are : lines ≡ rows_line (length words)
  pub table_is : table ≡ sweep_text a rows
