-- What is found of a street with each of its changes.
use Rattle.std.specs.Prelude.{◌≡◌, ℕ, List, [], ◌∷◌, Option, Some, None, IsSome}
use Rattle.std.specs.List.{AllZip}
use Rattle.rational_theory.specs.Rational.{ℚ}
use Rattle.progression.specs.Street.{Street}
use Rattle.artery_model.specs.Limits.{artery_fault}
use Rattle.branch_tree.specs.Told.{Found}
use Rattle.branch_tree.specs.Certified.{value_of}
use Rattle.branch_tree.specs.Searched.{IsSearched}
use Rattle.street_changes.specs.declared.limits.Change.{Change}
use Rattle.street_changes.specs.Changes.{changes}
use Rattle.street_changes.specs.Changed.{changed}
use Rattle.limit_sensitivity.specs.declared.row.RowOutcome.{RowOutcome}
use Rattle.limit_sensitivity.specs.declared.row.SensitivityRow.{SensitivityRow}

-- what a search of the street within the limit found: its verdict, its timing and its bound
pub record IsOutcome (a : Street) (limit : Option ℕ) (o : RowOutcome) : Type 0 where
  pub found : Found
  pub searched : IsSearched a limit found
  pub verdict_is : o.verdict ≡ found.verdict
  pub timing_is : o.timing ≡ found.timing
  pub bound_is : o.bound ≡ found.bound

-- nothing exactly where a description may not have the street with the change
abbrev pub IsEnd : Street → Option ℕ → Option RowOutcome → Type 0
IsEnd a limit None = IsSome (artery_fault a)
IsEnd a limit (Some o) = (artery_fault a ≡ None) × IsOutcome a limit o

pub record IsRow (a : Street) (limit : Option ℕ) (change : Change) (row : SensitivityRow) : Type 0 where
  pub change_is : row.change ≡ change
  pub end_is : IsEnd (changed a change) limit row.outcome

-- a row for each change, in their order
abbrev pub AreRows : Street → Option ℕ → List SensitivityRow → Type 0
AreRows a limit rows = AllZip (IsRow a limit) (changes a) rows

-- ---- the weighted band of the timing that was found
abbrev pub outcome_value : Street → Option RowOutcome → Option ℚ
outcome_value a None = None
outcome_value a (Some o) = value_of a o.timing

-- that of the first row
abbrev pub base_of : Street → List SensitivityRow → Option ℚ
base_of a [] = None
base_of a (row ∷ rows) = outcome_value a row.outcome
