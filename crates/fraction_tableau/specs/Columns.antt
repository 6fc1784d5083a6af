-- What the rows have at the place of a pivot, noted one after another in a list that may have room for fewer.
use Rattle.std.specs.Prelude.{◌≡◌, ℕ, List, [], length, get_or, ◌<◌, ◌≤◌}
use Rattle.rational_theory.specs.Rational.{ℚ}
use Rattle.simplex_theory.specs.Tableau.{Tableau, height}
use Rattle.fraction_tableau.specs.KeptCells.{number_in}
use Rattle.fraction_tableau.specs.NamedTableaus.{number_at}

-- as far as the list has room, it has what the first n rows have at place j
abbrev pub AreNoted : List (List ℚ) → ℕ → ℕ → List ℚ → Type 0
AreNoted rows j n column = (i : ℕ) → i < length column → i < n → number_in column i ≡ number_in (get_or rows i []) j

-- as far as the list has room, it has what the rows and then the goal row of the tableau have at place j
abbrev pub IsColumnOf : Tableau → ℕ → List ℚ → Type 0
IsColumnOf t j column = (i : ℕ) → i < length column → i ≤ height t → number_in column i ≡ number_at t i j
