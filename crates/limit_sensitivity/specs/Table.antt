-- The table: comma-separated values, a header and a record for each row.
use Rattle.std.specs.Prelude.{ℕ, List, [], ◌∷◌, ◌++◌, Option, Some, None, codes}
use Rattle.std.specs.List.{flat_map}
use Rattle.csv.specs.Writing.{default_writer, row_text}
use Rattle.rational_theory.specs.Rational.{ℚ}
use Rattle.progression.specs.Street.{Street}
use Rattle.branch_tree.specs.Certified.{value_of}
use Rattle.cycle_sweep.specs.Table.{dash, number_text, verdict_text, cause_text, bound_of}
use Rattle.table_text.specs.Cells.{name_cell}
use Rattle.street_changes.specs.declared.limits.Change.{Change}
use Rattle.street_changes.specs.Names.{change_word, place_text, name_text}
use Rattle.limit_sensitivity.specs.declared.row.RowOutcome.{RowOutcome}
use Rattle.limit_sensitivity.specs.declared.row.SensitivityRow.{SensitivityRow}
use Rattle.limit_sensitivity.specs.Rows.{base_of}
use Rattle.limit_sensitivity.specs.Gains.{difference, signed_spelling, exact_or_wide, decimal_or_wide}

-- a number as a decimal, cut after six places
abbrev pub decimal_text : Option ℚ → List ℕ
decimal_text None = dash
decimal_text (Some x) = signed_spelling x 6

-- the gain: the weighted band less that of the first row, where there are both
abbrev pub gain_fields : Option ℚ → Option ℚ → List (List ℕ)
gain_fields None weighted = dash ∷ dash ∷ []
gain_fields (Some base) None = dash ∷ dash ∷ []
gain_fields (Some base) (Some weighted) = exact_or_wide (difference weighted base) ∷ decimal_or_wide (difference weighted base) 6 ∷ []

-- ---- records
abbrev pub change_names : List (List ℕ)
change_names = codes "change" ∷ codes "place" ∷ codes "name" ∷ []

abbrev pub value_names : List (List ℕ)
value_names = codes "verdict" ∷ codes "weighted" ∷ codes "weighted_d" ∷ []

abbrev pub gain_names : List (List ℕ)
gain_names = codes "gain" ∷ codes "gain_d" ∷ codes "bound" ∷ codes "cause" ∷ []

abbrev pub header_fields : List (List ℕ)
header_fields = change_names ++ (value_names ++ gain_names)

abbrev pub change_fields : Street → Change → List (List ℕ)
change_fields a c = change_word c ∷ place_text c ∷ name_cell (name_text a c) ∷ []

-- of a verdict, a weighted band, what none exceeds, and a cause
abbrev pub told_fields : Option ℚ → List ℕ → Option ℚ → Option ℚ → List ℕ → List (List ℕ)
told_fields base verdict weighted bound cause = verdict ∷ number_text weighted ∷ decimal_text weighted ∷ (gain_fields base weighted ++ (number_text bound ∷ cause ∷ []))

abbrev pub outcome_fields : Street → Option ℚ → Option RowOutcome → List (List ℕ)
outcome_fields a base None = told_fields base (codes "outside") None None dash
outcome_fields a base (Some o) = told_fields base (verdict_text o.verdict) (value_of a o.timing) (bound_of o.verdict o.bound (value_of a o.timing)) (cause_text o.verdict)

abbrev pub row_fields : Street → Option ℚ → SensitivityRow → List (List ℕ)
row_fields a base row = change_fields a row.change ++ outcome_fields a base row.outcome

-- ---- the text, with quotes where `csv` wants them
abbrev pub record_text : List (List ℕ) → List ℕ
record_text fields = row_text default_writer fields

abbrev pub sensitivity_text : Street → List SensitivityRow → List ℕ
sensitivity_text a rows = record_text header_fields ++ flat_map (λ row. record_text (row_fields a (base_of a rows) row)) rows
