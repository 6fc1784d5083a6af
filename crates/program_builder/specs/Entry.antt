-- The entry of a box: from its rows as they are loaded to the basic variables that another box's tableau of the same artery ended with.
use Rattle.std.proofs.Common.{◌≡◌, ℕ, false, List}
use Rattle.progression.specs.Street.{Street, count}
use Rattle.linear_theory.specs.Places as places
use Rattle.linear_theory.specs.Boxes.{Area}
use Rattle.simplex_theory.specs.Tableau.{Tableau, width}
use Rattle.simplex_theory.specs.DualSteps.{IsDual}
use Rattle.simplex_theory.specs.RowLists.{StandsForRows}
use Rattle.fraction_tableau.specs.NamedTableaus.{NamedTableau}
use Rattle.entry_theory.specs.Entry.{NamesBasics, entry}
use Rattle.program_builder.specs.BoxRows.{rows_of}
use Rattle.program_builder.specs.Opening.{box_rows, goal_of, loaded}

-- the list names in ascending order the basic variables of a dual feasible tableau of the artery, on some box
pub record IsBasisOf (a : Street) (vs : List ℕ) : Type 0 where
  pub table : Tableau
  pub box : Area
  pub columns : width table ≡ places.width (count a)
  pub dual : IsDual table
  pub stands : StandsForRows table (box_rows a box) (goal_of a)
  pub names : NamesBasics vs table

abbrev pub entered_box : Street → Area → List ℕ → NamedTableau
entered_box a box vs = record { table = entry vs (loaded a box); names = rows_of a; spent = false }
