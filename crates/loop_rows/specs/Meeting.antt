-- Rows that every point meets that counts.
use Rattle.std.specs.Prelude.{◌≡◌, List, false}
use Rattle.rational_theory.specs.Rational.{ℚ}
use Rattle.rational_theory.specs.Rows.{IsMet}
use Rattle.progression.specs.Street.{Street}
use Rattle.linear_theory.specs.Boxes.{Area}
use Rattle.linear_theory.specs.Counts.{IsGoodPoint}
use Rattle.named_row.specs.Sheets.{Sheet, row_of}

-- an unspent row that every point meets that counts for a problem
pub record IsFilledBy (Counts : Street → Area → List ℚ → Type 0) (a : Street) (box : Area) (r : Sheet) : Type 0 where
  pub unspent : r.spent ≡ false
  pub met : (x : List ℚ) → Counts a box x → IsMet x (row_of r)

-- as the points of good timings of the box
abbrev pub IsFilled : Street → Area → Sheet → Type 0
IsFilled a box r = IsFilledBy IsGoodPoint a box r
