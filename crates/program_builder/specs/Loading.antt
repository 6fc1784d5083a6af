-- What loading the rows of a box and the goal makes of a tableau with room for them.
use Rattle.std.specs.Prelude.{◌≡◌, false, List, [], ◌∷◌, ◌++◌, map, length}
use Rattle.std.specs.List.{range_with_len}
use Rattle.rational_theory.specs.Rational.{ℚ, neg_ℚ}
use Rattle.rational_theory.specs.Rows as maths
use Rattle.progression.specs.Speeds.{number}
use Rattle.linear_theory.specs.Boxes.{Area}
use Rattle.simplex_theory.specs.Tableau.{Tableau, height, width}
use Rattle.fraction_tableau.specs.NamedTableaus.{NamedTableau}
use Rattle.program_builder.specs.ProgramTable.{ProgramTable, rows_in}

-- a row of a tableau has the bound last; the goal row has the negated coefficients, and 0 last
abbrev pub cells_of : maths.Row → List ℚ
cells_of r = r.coefs ++ r.bound ∷ []

abbrev pub goal_cells_of : List ℚ → List ℚ
goal_cells_of goal = map neg_ℚ goal ++ number 0 ∷ []

-- each slack is basic in its row, and each column stands at its place
unfoldable pub loaded_table : ProgramTable → Area → Tableau
loaded_table p box = record {
  rows = map cells_of (rows_in p box);
  goal = goal_cells_of p.goal;
  basic = range_with_len p.columns (length p.names);
  standing = range_with_len 0 p.columns;
}

-- a row of the tableau for each name, and a place for each column
pub record HasRoomFor (p : ProgramTable) (t : NamedTableau) : Type 0 where
  pub rows : height t.table ≡ length p.names
  pub columns : width t.table ≡ p.columns

-- every row of the box, each with its slack basic; all else stays
unfoldable pub with_rows : ProgramTable → Area → NamedTableau → NamedTableau
with_rows p box t = record {
  table = record {
    rows = map cells_of (rows_in p box);
    goal = t.table.goal;
    basic = range_with_len p.columns (length p.names);
    standing = t.table.standing;
  };
  names = p.names;
  spent = t.spent;
}

-- the rows and the goal
abbrev pub loaded_rows : ProgramTable → Area → NamedTableau
loaded_rows p box = record { table = loaded_table p box; names = p.names; spent = false }
