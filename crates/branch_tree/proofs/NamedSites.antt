-- What a site of an artery's search names is there: the row, the column and the link are ones of the artery.
use Rattle.std.proofs.Common.{arith, ◌≡◌, ℕ, ◌≤◌, List, length, refl}
use Rattle.rational_theory.specs.Rational.{ℚ}
use Rattle.progression.specs.Street.{Street, count}
use Rattle.progression.specs.TimingRecord.{TimingRecord}
use Rattle.artery_model.specs.Valid.{IsValid}
use Rattle.linear_theory.specs.Names.{HasRow, name_of, form_of}
use Rattle.linear_theory.specs.Places.{width}
use Rattle.linear_theory.specs.Boxes.{Area}
use Rattle.loop_rows.proofs.RowTests.{row_decided}
use Rattle.loop_rows.proofs.Writing.{written_width}
use Rattle.loop_rows.specs.Weights.{artery_rows, name_at}
use Rattle.offset_recovery.specs.Outcomes.{Outcome}
use Rattle.offset_recovery.specs.Recovered.{recovered, unit_tests, column_tests, number_tests}
use Rattle.program_builder.specs.BoxRows.{rows_of}
use Rattle.branch_and_bound.specs.Lines.{BoxLine}
use Rattle.branch_tree.specs.ArteryProgram.{program_of}
use Rattle.box_search.specs.Ends.{end_leaf, end_point}
use Rattle.box_search.specs.Sites.{refusal_at}
use Rattle.box_search.specs.laws.RunLaws.{point_columns}
use Rattle.box_search.specs.SiteNames.{IsTimingPartIn}
use Rattle.branch_tree.specs.SiteNames.{IsPartOf}
use Rattle.box_search.proofs.EachRefusal.{Each, each_earlier}
use Rattle.box_search.proofs.NamedSites.{IsNamedOutcome, units_named, columns_named, placed_named, outcome_by_named, fault_named, vertex_named, refusal_named}

module _ (a : Street) (v : IsValid a) (columns : ℕ) (enough : width (count a) ≤ columns) (box : Area) (x : List ℚ) where
  numbers_named : length x ≡ columns → Each (IsTimingPartIn a columns) (number_tests a x)
  numbers_named e =
      each_earlier (IsTimingPartIn a columns) (unit_tests a x) _ (units_named a v columns enough box x e)
      (each_earlier (IsTimingPartIn a columns) (column_tests a x) _ (columns_named a v columns enough box x) (placed_named a v columns enough box x))

  outcome_named : length x ≡ columns → (o : Outcome TimingRecord) → recovered a box x ≡ o → IsNamedOutcome a columns o
  unfolding recovered
  outcome_named l o e = outcome_by_named a v columns enough box x (number_tests a x) (numbers_named l) o e

pub part_named : (a : Street) (line : BoxLine) → IsValid a → (k : ℕ) → Each (IsPartOf a) (refusal_at (program_of a) line k)
part_named a line v k =
    refusal_named a (λ row. HasRow a (name_of row.family row.index)) (program_of a) line v (λ w. refl) (λ w. refl) (λ row at. refl)
    (fault_named (artery_rows a line.area) (λ row. HasRow a (name_at row)) (λ row h. (row_decided a (name_at row)).0 h) (λ row. written_width a (form_of a line.area (name_at row)))
    (end_leaf (program_of a) line))
    (vertex_named a (length (rows_of a)) (width (count a)) (λ row. HasRow a (name_at row)) (recovered a line.area (end_point (program_of a) line))
    (outcome_named a v (width (count a)) (omega arith) line.area (end_point (program_of a) line) (point_columns (program_of a) line v) _ refl)) k
