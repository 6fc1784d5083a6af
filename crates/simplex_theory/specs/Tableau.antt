-- Dantzig's tableau, its exchange of a basic variable with one that stands at a place, and what the exchange keeps: which
-- assignments meet the tableau, and the goal on them.
use Rattle.std.proofs.Common.{◌≡◌, ℕ, suc, pos, List, [], map, length, get_or, ◌<◌}
use Rattle.std.proofs.Math.ListN.{set}
use Rattle.rational_theory.specs.Rational.{ℚ, whole, ◌+ℚ◌}
use Rattle.rational_theory.specs.Rows.{dot}
use Rattle.simplex_theory.specs.Lines.{values, divided, cleared}

-- each row has a cell for each place, and the bound last
pub record Tableau : Type 0 where
  pub rows : List (List ℚ)
  pub goal : List ℚ
  pub basic : List ℕ
  pub standing : List ℕ

abbrev pub line : Tableau → ℕ → List ℚ
line t i = get_or t.rows i []

abbrev pub cell : Tableau → ℕ → ℕ → ℚ
cell t i k = get_or (line t i) k (whole (pos 0))

abbrev pub goal_cell : Tableau → ℕ → ℚ
goal_cell t k = get_or t.goal k (whole (pos 0))

abbrev pub height : Tableau → ℕ
height t = length t.rows

abbrev pub width : Tableau → ℕ
width t = length t.standing

-- a bound is the cell after the last place
abbrev pub bound : Tableau → ℕ → ℚ
bound t i = cell t i (width t)

abbrev pub goal_bound : Tableau → ℚ
goal_bound t = goal_cell t (width t)

abbrev pub basic_at : Tableau → ℕ → ℕ
basic_at t i = get_or t.basic i 0

abbrev pub standing_at : Tableau → ℕ → ℕ
standing_at t k = get_or t.standing k 0

pub record IsShaped (t : Tableau) : Type 0 where
  pub basics : length t.basic ≡ height t
  pub lines : (i : ℕ) → i < height t → length (line t i) ≡ suc (width t)
  pub goals : length t.goal ≡ suc (width t)

unfoldable pub exchange : ℕ → ℕ → Tableau → Tableau
exchange r j t = record {
  rows = set (map (cleared j (divided j (line t r))) t.rows) r (divided j (line t r));
  goal = cleared j (divided j (line t r)) t.goal;
  basic = set t.basic r (standing_at t j);
  standing = set t.standing j (basic_at t r);
}

pub record IsPlace (t : Tableau) (r j : ℕ) : Type 0 where
  pub row : r < height t
  pub place : j < width t
  pub pivot : cell t r j ≡ whole (pos 0) → ⊥

-- ---- assignments
-- what row i is off by at the variables x, the bounds being taken z times
unfoldable pub gap : Tableau → (ℕ → ℚ) → ℚ → ℕ → ℚ
gap t x z i = x (basic_at t i) +ℚ dot (line t i) (values x z t.standing)

-- the same of the goal row, at the goal value y
unfoldable pub goal_gap : Tableau → (ℕ → ℚ) → ℚ → ℚ → ℚ
goal_gap t x z y = y +ℚ dot t.goal (values x z t.standing)

pub record Meets (t : Tableau) (x : ℕ → ℚ) (z : ℚ) : Type 0 where
  pub met : (i : ℕ) → i < height t → gap t x z i ≡ whole (pos 0)
