-- What the status of `sensitivity` says of the model.
use Rattle.std.specs.Prelude.{◌≡◌, ℕ, List, Option}
use Rattle.std.specs.List.{AllZip}
use Rattle.rational_theory.specs.Rational.{ℚ}
use Rattle.outer_edge.specs.Held.{HoldsExactly}
use Rattle.outer_edge.specs.Taken.{Appends}
use Rattle.progression.specs.Street.{Street}
use Rattle.street_changes.specs.declared.limits.Change.{Change}
use Rattle.street_changes.specs.Changes.{changes}
use Rattle.limit_sensitivity.specs.declared.row.SensitivityRow.{SensitivityRow}
use Rattle.limit_sensitivity.specs.Rows.{IsRow, base_of}
use Rattle.limit_sensitivity.specs.Says.{SaysEnd}
use Rattle.limit_sensitivity.specs.Table.{row_fields, sensitivity_text}
use Rattle.limit_sensitivity.specs.Report.{sensitivity_lines}
use Rattle.run_inputs.specs.Reading.{Reads}
use Rattle.run_inputs.specs.declared.reader.ReadAs.TheVariants.{Description}
use Rattle.run_inputs.specs.Status.{number_of}
use Rattle.run_inputs.specs.declared.cause.Cause.{Cause}
use Rattle.maxband_run.specs.Outside.{Outside}
use Rattle.maxband_run.specs.Run.{Ends}
use Rattle.run_laws.specs.Asked as ask

-- what is found with a change, and what its record says of the street with it
pub record SaysChange (a : Street) (limit : Option ℕ) (base : Option ℚ) (change : Change) (row : SensitivityRow) : Type 0 where
  pub found : IsRow a limit change row
  pub says : SaysEnd a limit base change row.outcome (row_fields a base row)

-- with status 0: the file that is put holds, where it is told, the table of the street's changes, a record for each, and their lines were written
pub record PutsLimits (before now : Outside) (artery table : List ℕ) (limit : Option ℕ) : Type 0 where
  pub street : Street
  pub rows : List SensitivityRow
  pub description : Reads Description (before.holds artery) street
  pub each : AllZip (SaysChange street limit (base_of street rows)) (changes street) rows
  pub put : HoldsExactly (now.holds table) (sensitivity_text street rows)
  pub told : Appends before.taken now.taken (sensitivity_lines street rows)

abbrev pub SensitivitySays : Type 0
SensitivitySays = (before now : Outside) (artery table : List ℕ) (limit : Option ℕ) (c : Cause) → Ends before now (ask.sensitivity artery table limit) c
    → number_of c ≡ 0 → PutsLimits before now artery table limit
