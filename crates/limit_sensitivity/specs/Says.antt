-- What the records say of the street, in the words of the model.
use Rattle.std.specs.Prelude.{◌≡◌, ℕ, List, ◌++◌, Option, Some, None, IsSome, codes}
use Rattle.rational_theory.specs.Rational.{ℚ}
use Rattle.progression.specs.Street.{Street}
use Rattle.artery_model.specs.Limits.{artery_fault}
use Rattle.branch_and_bound.specs.declared.found.Verdict.{Verdict}
use Rattle.box_search.specs.declared.site.SitePart.{SitePart}
use Rattle.cycle_sweep.specs.Table.{dash}
use Rattle.cycle_sweep.specs.Says.{SaysFound}
use Rattle.street_changes.specs.declared.limits.Change.{Change}
use Rattle.street_changes.specs.declared.limits.Change.TheVariants.{AsItIs}
use Rattle.street_changes.specs.Changed.{changed}
use Rattle.limit_sensitivity.specs.declared.row.RowOutcome.{RowOutcome}
use Rattle.limit_sensitivity.specs.declared.row.SensitivityRow.{SensitivityRow}
use Rattle.limit_sensitivity.specs.Rows.{IsRow}
use Rattle.limit_sensitivity.specs.Table.{change_fields, told_fields, row_fields}

-- the form of the records of a change
abbrev pub telling : Street → Option ℚ → Change → List ℕ → Option ℚ → Option ℚ → List ℕ → List (List ℕ)
telling a base c verdict weighted bound cause = change_fields a c ++ told_fields base verdict weighted bound cause

-- `outside`: a description may not have the street with the change; else what the verdict says of it, after this many units
abbrev pub SaysEnd : Street → Option ℕ → Option ℚ → Change → Option RowOutcome → List (List ℕ) → Type 0
SaysEnd a limit base c None texts = IsSome (artery_fault (changed a c)) × (texts ≡ telling a base c (codes "outside") None None dash)
SaysEnd a limit base c (Some o) texts = (artery_fault (changed a c) ≡ None) × (spent : ℕ) × SaysFound (changed a c) limit (telling a base c) spent o.verdict texts

-- what the record of a change means
abbrev pub RowsSay : Type 0
RowsSay = (a : Street) (limit : Option ℕ) (base : Option ℚ) (c : Change) (row : SensitivityRow) → IsRow a limit c row → SaysEnd a limit base c row.outcome (row_fields a base row)

-- the street with no change is the street
abbrev pub UnchangedIsTheStreet : Type 0
UnchangedIsTheStreet = (a : Street) → changed a AsItIs ≡ a
