-- Sums of a function over the numbers below n, and a row read over all variables.
use Rattle.std.proofs.Common.{ℕ, zero, suc, pos, cond, eqb, List, [], ◌∷◌}
use Rattle.rational_theory.specs.Rational.{ℚ, whole, ◌+ℚ◌}

abbrev pub total : (ℕ → ℚ) → ℕ → ℚ
total f zero = whole (pos 0)
total f (suc n) = total f n +ℚ f n

-- ---- the cell of a variable: where it stands, and 0 where it does not
abbrev pub cell_of : List ℚ → List ℕ → ℕ → ℚ
cell_of [] vs v = whole (pos 0)
cell_of (a ∷ us) [] v = whole (pos 0)
cell_of (a ∷ us) (u ∷ vs) v = cond (eqb v u) a (cell_of us vs v)
