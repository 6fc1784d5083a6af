-- The rows of links of an artery as a set of rows, and as a source of rows for the sums that leaves name.
use Rattle.progression.specs.Street.{Street, count}
use Rattle.linear_theory.specs.Boxes.{Area}
use Rattle.named_row.specs.declared.names.RowId.{RowId}
use Rattle.named_row.specs.declared.leaves.Weight.{Weight}
use Rattle.loop_rows.specs.Following.{Rows}
use Rattle.loop_rows.specs.Weights.{Source, with_name}
use Rattle.loop_rows.specs.RowSets.{RowSet}
use Rattle.link_theory.specs.LinkColumns.{link_width}
use Rattle.link_theory.specs.LinkNames.{LinkName, HasLinkRow, link_name_of, last_link_family}
use Rattle.link_theory.specs.LinkTrees.{LinkWeight}
use Rattle.link_space.specs.LinkSheets.{link_sheet, link_goal_sheet}
use Rattle.link_space.specs.LinkRowTests.{has_link_row}

-- a row's name, and a multiplier with it
abbrev pub link_name_at : RowId → LinkName
link_name_at row = link_name_of row.family row.index

abbrev pub link_named : Weight → LinkWeight
link_named w = with_name link_name_at w

-- which rows there are, by family and index
abbrev pub rows_of_links : Street → Rows
rows_of_links a = λ family i. HasLinkRow a (link_name_of family i)

-- how wide they are, which there are, and what each is for a box
abbrev pub link_rows : Street → Area → Source
link_rows a box = record { width = link_width (count a); has = λ row. has_link_row a (link_name_at row); row = λ row. link_sheet a box (link_name_at row) }

-- for all boxes, with the value of links; their indices are numbers of links
abbrev pub link_set : Street → RowSet
link_set a = record {
  width = link_width (count a);
  has = λ row. has_link_row a (link_name_at row);
  last_family = last_link_family;
  last_index = count a;
  row = λ box row. link_sheet a box (link_name_at row);
  goal = link_goal_sheet a;
}
