-- One equation of a tableau: a basic variable, and its cells times what stands at the places, the bound last; and what an
-- exchange makes of it (Gauss and Jordan's elimination, as Dantzig's tableau has it).
use Rattle.std.proofs.Common.{ℕ, pos, List, [], ◌∷◌, get_or}
use Rattle.std.proofs.Math.ListN.{set}
use Rattle.rational_theory.specs.Rational.{ℚ, whole, neg_ℚ, inverse_ℚ}
use Rattle.rational_theory.specs.Rows.{scale, add}

-- what stands at the places: the variables, and at the bound's place the negated unit of the bounds
abbrev pub values : (ℕ → ℚ) → ℚ → List ℕ → List ℚ
values x z [] = neg_ℚ z ∷ []
values x z (v ∷ vs) = x v ∷ values x z vs

-- the exchanged row: place j belongs to the variable that was basic
unfoldable pub divided : ℕ → List ℚ → List ℚ
divided j c = scale (inverse_ℚ (get_or c j (whole (pos 0)))) (set c j (whole (pos 1)))

-- another row, without the variable that stood at place j, by the exchanged row e
unfoldable pub cleared : ℕ → List ℚ → List ℚ → List ℚ
cleared j e d = add (set d j (whole (pos 0))) (scale (neg_ℚ (get_or d j (whole (pos 0)))) e)
