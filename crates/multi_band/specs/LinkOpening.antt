-- The tableau that each box of links begins from: its rows and the goal as they are loaded, and then each half in the basis, in the row that keeps it within the
-- green at its link's own signal.
use Rattle.std.specs.Prelude.{◌≡◌, ℕ, zero, suc, ◌+◌, ◌-◌, false, List, [], ◌∷◌, length}
use Rattle.progression.specs.Street.{Street, count}
use Rattle.progression.specs.declared.parts.Dir.{Dir}
use Rattle.progression.specs.declared.parts.Dir.TheVariants.{Outbound, Inbound}
use Rattle.linear_theory.specs.Boxes.{Area}
use Rattle.linear_theory.specs.Places.{width}
use Rattle.simplex_theory.specs.Tableau.{Tableau}
use Rattle.simplex_theory.specs.DualSteps.{IsDual}
use Rattle.simplex_theory.specs.RowLists.{StandsForRows}
use Rattle.fraction_tableau.specs.NamedTableaus.{NamedTableau}
use Rattle.program_builder.specs.BoxRows.{names_through}
use Rattle.program_builder.specs.Loading.{HasRoomFor, loaded_rows}
use Rattle.program_builder.specs.StartPivots.{after_pivots}
use Rattle.program_builder.specs.declared.pivots.StartPivot.{StartPivot}
use Rattle.link_theory.specs.LinkColumns.{link_width, half_place}
use Rattle.link_theory.specs.LinkRows.{link_goal}
use Rattle.multi_band.specs.LinkTables.{is_link_there, names_of_links, link_table, link_box_rows, link_loaded}
use Rattle.multi_band.specs.declared.building.SpareRows.{SpareRows}

-- the family of the rows by which a wait at a link's own signal and the link's half fit into the green there: far_out_a and far_in_a
abbrev pub far_family : Dir → ℕ
far_family Outbound = 24
far_family Inbound = 28

-- how many rows there are of the families before it
abbrev pub rows_before : Street → Dir → ℕ
rows_before a d = length (names_through (is_link_there a) (suc (count a)) (far_family d - 1))

-- the half of link i enters in its row
abbrev pub half_pivot : Street → Dir → ℕ → StartPivot
half_pivot a d i = record { row = rows_before a d + (i - 1); column = half_place (count a) d i }

-- the halves of so many links from link i on, in order, each link's outbound one first
abbrev pub half_pivots : Street → ℕ → ℕ → List StartPivot
half_pivots a i zero = []
half_pivots a i (suc k) = half_pivot a Outbound i ∷ half_pivot a Inbound i ∷ half_pivots a (i + 1) k

abbrev pub link_pivots : Street → List StartPivot
link_pivots a = half_pivots a 1 (count a - 1)

unfoldable pub link_opening : Street → Area → Tableau
link_opening a box = after_pivots (link_pivots a) (link_loaded a box)

-- ---- with names
-- a tableau that was made for the artery's links: a row for each of their names, and a place for each of their columns
abbrev pub IsMadeForLinks : Street → NamedTableau → Type 0
IsMadeForLinks a = HasRoomFor (link_table a)

abbrev pub loaded_links : Street → Area → NamedTableau
loaded_links a box = loaded_rows (link_table a) box

abbrev pub opened_links : Street → Area → NamedTableau
opened_links a box = record { table = link_opening a box; names = names_of_links a; spent = false }

-- the opening of a box, which is dual feasible and stands for the rows of the box and the value of links
pub record IsOpenedForLinks (a : Street) (box : Area) (t : NamedTableau) : Type 0 where
  pub opened : t ≡ opened_links a box
  pub dual : IsDual t.table
  pub stands : StandsForRows t.table (link_box_rows a box) (link_goal a)
  pub made : IsMadeForLinks a t

-- the spare row has the artery's width and the other one that of links
pub record AreSpareRows (a : Street) (rows : SpareRows) : Type 0 where
  pub spare : length rows.spare.coefs ≡ width (count a)
  pub row : length rows.row.coefs ≡ link_width (count a)
