-- Rows whose numbers all fit: so does every number of a `Frac`.
use Rattle.std.proofs.Common.{ℕ, pos, List, [], get_or}
use Rattle.rational_theory.specs.Rational.{ℚ, whole}
use Rattle.narrow_fraction.specs.Fraction.{FitsFrac}

pub record IsNarrow (row : List ℚ) : Type 0 where
  pub fits : (k : ℕ) → FitsFrac (get_or row k (whole (pos 0)))

pub record AreNarrow (rows : List (List ℚ)) : Type 0 where
  pub narrow : (i : ℕ) → IsNarrow (get_or rows i [])
