-- The rows of a kind of bands of an artery, for all of its boxes.
use Rattle.std.specs.Prelude.{◌≡◌, ℕ, suc, ◌+◌, ◌*◌, ◌^◌, ◌<◌, ◌≤◌, Bool, true, length}
use Rattle.progression.specs.Street.{Street, count}
use Rattle.linear_theory.specs.Places.{width}
use Rattle.linear_theory.specs.Boxes.{Area}
use Rattle.linear_theory.specs.Rows.{goal_form}
use Rattle.linear_theory.specs.Names.{last_family}
use Rattle.named_row.specs.Sheets.{Sheet}
use Rattle.named_row.specs.declared.names.RowId.{RowId}
use Rattle.loop_rows.specs.Writing.{written}
use Rattle.loop_rows.specs.RowTests.{has_row}
use Rattle.loop_rows.specs.Following.{Rows}
use Rattle.loop_rows.specs.Weights.{Source, name_at, row_at}

-- How wide rows are, which there are, the last number of a family and the last index that a row can have, what each row is for a box, and the goal.
pub record RowSet : Type 0 where
  pub width : ℕ
  pub has : RowId → Bool
  pub last_family : ℕ
  pub last_index : ℕ
  pub row : Area → RowId → Sheet
  pub goal : Sheet

-- for one box
abbrev pub rows_for : RowSet → Area → Source
rows_for set box = record { width = set.width; has = set.has; row = set.row box }

-- by the numbers of their families and their indices
abbrev pub rows_of_set : RowSet → Rows
rows_of_set set = λ family i. set.has (record { family = family; index = i }) ≡ true

-- families and indices are in their ranges, each row and the goal is as wide as the set, and rows and columns together are fewer than 2^32
pub record IsRowSet (set : RowSet) : Type 0 where
  pub least : (r : RowId) → set.has r ≡ true → 1 ≤ r.family
  pub family : (r : RowId) → set.has r ≡ true → r.family ≤ set.last_family
  pub index : (r : RowId) → set.has r ≡ true → r.index ≤ set.last_index
  pub rows : (box : Area) (r : RowId) → length (set.row box r).coefs ≡ set.width
  pub goal : length set.goal.coefs ≡ set.width
  pub few : set.last_family * suc set.last_index + set.width < 2 ^ 32

-- those of an artery, whose indices are numbers of signals
abbrev pub artery_set : Street → RowSet
artery_set a = record {
  width = width (count a);
  has = λ row. has_row a (name_at row);
  last_family = last_family;
  last_index = count a;
  row = row_at a;
  goal = written a (goal_form a);
}
