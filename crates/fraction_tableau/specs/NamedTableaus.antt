-- What contracts see of a `Tableau`: a tableau of rational numbers, the names of its rows, and whether it is spent.
use Rattle.std.specs.Prelude.{◌≡◌, ℕ, Bool, true, false, List, [], ◌∷◌, ◌++◌, map, length, replicate, set, slice_index_or, pos, cond, eqb, ◌<◌, ◌+◌, ◌-◌, ◌^◌}
use Rattle.std.specs.List.{range_with_len}
use Rattle.rational_theory.specs.Rational.{ℚ, whole, neg_ℚ}
use Rattle.simplex_theory.specs.Tableau.{Tableau, IsShaped, height, width, line, cell, goal_cell}
use Rattle.named_row.specs.Sheets.{Sheet}
use Rattle.named_row.specs.declared.names.RowId.{RowId}
use Rattle.fraction_tableau.specs.Narrow.{IsNarrow, AreNarrow}

pub record NamedTableau : Type 0 where
  pub table : Tableau
  pub names : List RowId
  pub spent : Bool

-- the cell of a row, or of the goal row, which has the number after the last row
abbrev pub number_at : Tableau → ℕ → ℕ → ℚ
number_at t r k = cond (eqb r (height t)) (goal_cell t k) (cell t r k)

abbrev pub unnamed : RowId
unnamed = record { family = 0; index = 0 }

-- the name of a row
abbrev pub name_in : List RowId → ℕ → RowId
name_in names r = slice_index_or names r unnamed

abbrev pub name_at : NamedTableau → ℕ → RowId
name_at t r = name_in t.names r

-- ---- what the calls make
-- m rows of w places and a goal, all numbers 0: each slack is basic in its row and each column stands at its place
unfoldable pub blank_table : ℕ → ℕ → Tableau
blank_table m w = record {
  rows = replicate m (replicate (w + 1) (whole (pos 0)));
  goal = replicate (w + 1) (whole (pos 0));
  basic = range_with_len w m;
  standing = range_with_len 0 w;
}

unfoldable pub blank_tableau : ℕ → ℕ → NamedTableau
blank_tableau m w = record { table = blank_table m w; names = replicate m unnamed; spent = false }

-- the cells of a named row, the bound last
abbrev pub row_cells : Sheet → List ℚ
row_cells s = s.coefs ++ s.bound ∷ []

-- the named row in row r, with its slack basic
unfoldable pub with_row : ℕ → RowId → Sheet → NamedTableau → NamedTableau
with_row r name s t = record {
  table = record {
    rows = set t.table.rows r (row_cells s);
    goal = t.table.goal;
    basic = set t.table.basic r (width t.table + r);
    standing = t.table.standing;
  };
  names = set t.names r name;
  spent = t.spent;
}

-- a row with another bound
abbrev pub rebound : ℚ → List ℚ → List ℚ
rebound x row = set row (length row - 1) x

-- row r with another bound
unfoldable pub with_bound : ℕ → ℚ → NamedTableau → NamedTableau
with_bound r x t = record {
  table = record { rows = set t.table.rows r (rebound x (line t.table r)); goal = t.table.goal; basic = t.table.basic; standing = t.table.standing };
  names = t.names;
  spent = t.spent;
}

-- the goal row with another bound
unfoldable pub with_goal_bound : ℚ → NamedTableau → NamedTableau
with_goal_bound x t = record {
  table = record { rows = t.table.rows; goal = rebound x t.table.goal; basic = t.table.basic; standing = t.table.standing };
  names = t.names;
  spent = t.spent;
}

-- the goal row of a goal: its coefficients negated, the bound 0
abbrev pub goal_cells : Sheet → List ℚ
goal_cells s = map neg_ℚ s.coefs ++ whole (pos 0) ∷ []

-- the goal, with each column at its place, and no longer spent
unfoldable pub with_goal : Sheet → NamedTableau → NamedTableau
with_goal s t = record {
  table = record { rows = t.table.rows; goal = goal_cells s; basic = t.table.basic; standing = range_with_len 0 (width t.table) };
  names = t.names;
  spent = false;
}

-- t after a refused pivot of s
pub record IsSpentFrom (s t : NamedTableau) : Type 0 where
  pub spent : t.spent ≡ true
  pub goal : t.table.goal ≡ s.table.goal
  pub basic : t.table.basic ≡ s.table.basic
  pub standing : t.table.standing ≡ s.table.standing
  pub names : t.names ≡ s.names

-- ---- what is kept
-- a name for each row, fewer than 2 ^ 32 variables, and numbers that fit
pub record IsNamed (t : NamedTableau) : Type 0 where
  pub shaped : IsShaped t.table
  pub named : length t.names ≡ height t.table
  pub small : height t.table + width t.table < 2 ^ 32
  pub narrow_rows : AreNarrow t.table.rows
  pub narrow_goal : IsNarrow t.table.goal

-- the shape, the names, numbers that fit, and three spare rows as wide as the goal row
pub record IsSound (t : NamedTableau) (spare held room : ℕ) : Type 0 where
  pub shaped : IsShaped t.table
  pub named : length t.names ≡ height t.table
  pub small : height t.table + width t.table < 2 ^ 32
  pub narrow_rows : AreNarrow t.table.rows
  pub narrow_goal : IsNarrow t.table.goal
  pub spares : spare ≡ length t.table.goal
  pub helds : held ≡ length t.table.goal
  pub rooms : room ≡ length t.table.goal
