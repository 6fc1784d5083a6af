-- What the rows have at a place, while it is noted one row after another.
use Rattle.std.proofs.Common.{◌≡◌, ℕ, List, [], length, get_or, ◌+◌, ◌<◌, inl, inr, ◌∙◌, arith}
use Rattle.rational_theory.specs.Rational.{ℚ}
use Rattle.fraction_tableau.specs.KeptCells.{number_in}
use Rattle.fraction_tableau.specs.Columns.{AreNoted}
use Rattle.fraction_tableau.proofs.Merges.{below_next}

pub noted_none : (rows : List (List ℚ)) (j : ℕ) (column : List ℚ) → AreNoted rows j 0 column
noted_none rows j column i h l = absurd (omega arith)

-- row n is noted too
pub noted_next : (rows : List (List ℚ)) (j n : ℕ) (old new : List ℚ) (x : ℚ) → AreNoted rows j n old → length new ≡ length old → (n < length old → number_in new n ≡ x)
    → ((i : ℕ) → (i ≡ n → ⊥) → number_in new i ≡ number_in old i)
    → x ≡ number_in (get_or rows n []) j → AreNoted rows j (n + 1) new
noted_next rows j n old new x o e f g q i h l = elim (below_next i n l) [
  | inl s ↦ rw s (f (omega arith) ∙ q)
  | inr s ↦ g i (λ b. absurd (omega arith)) ∙ o i (omega arith) s
]
