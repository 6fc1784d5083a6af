-- A linear program over boxes that is solved along lines of boxes: its rows, its goal, the tableau that the steps of each line begin
-- from, and what is read off an end. Whatever is said of a run is said of any such program.
use Rattle.std.specs.Prelude.{◌≡◌, ℕ, List, map, Option}
use Rattle.rational_theory.specs.Rational.{ℚ}
use Rattle.rational_theory.specs.Rows as maths
use Rattle.linear_theory.specs.Boxes.{Area}
use Rattle.search_box.specs.declared.span.At.{At}
use Rattle.named_row.specs.declared.names.RowId.{RowId}
use Rattle.named_row.specs.declared.leaves.Weight.{Weight}
use Rattle.named_row.specs.declared.wide_at.WideAt.{WideAt}
use Rattle.simplex_theory.specs.Tableau.{Tableau, width}
use Rattle.simplex_theory.specs.DualSteps.{IsDual}
use Rattle.simplex_theory.specs.RowLists.{StandsForRows}
use Rattle.fraction_tableau.specs.declared.wide_cell.WideCell.{WideCell}
use Rattle.loop_rows.specs.declared.fault.SumFault.{SumFault}
use Rattle.branch_and_bound.specs.Lines.{BoxLine}

-- what becomes of a vertex: an operation of its reading is refused, it shows where its box is split, or it gives a timing
pub data Outcome (T W : Type 0) : Type 0 where
  Refused : W → Outcome T W
  Splits : At → Outcome T W
  Gives : T → Outcome T W

-- a tableau that steps may begin from: it is dual feasible, and the same assignments meet it and these rows with their slacks, of which it
-- has one for each, and its goal row gives the goal's value
pub record IsFirst (rows : List maths.Row) (goal : List ℚ) (columns : ℕ) (t : Tableau) : Type 0 where
  pub columns_are : width t ≡ columns
  pub dual : IsDual t
  pub stands : StandsForRows t rows goal

-- with timings of type T and refused operations of type W
pub record Program (T W : Type 0) : Type 1 where
  -- what the facts ask of the program
  pub IsSound : Type 0
  -- the names of the rows in their order, the row of a name for a box, the goal's coefficients, and the number of columns
  pub names : List RowId
  pub row : Area → RowId → maths.Row
  pub goal : List ℚ
  pub columns : ℕ
  -- the tableau that the steps of a line begin from
  pub first : BoxLine → Tableau
  -- the first fault of a leaf's sum over the rows of a box, and what becomes of a vertex of it
  pub leaf_fault : Area → List Weight → Option SumFault
  pub outcome : Area → List ℚ → Outcome T W
  -- what names a refused operation: of a ratio, of a pivot, and of the sum of a leaf
  pub ratio_part : WideCell → W
  pub pivot_part : WideCell → W
  pub sum_part : RowId → WideAt → W
  -- ---- facts
  pub first_is : IsSound → (line : BoxLine) → IsFirst (map (row line.area) names) goal columns (first line)

-- the rows of a box in the order of their names
abbrev pub rows_for : {T W : Type 0} → Program T W → Area → List maths.Row
rows_for p box = map (p.row box) p.names
