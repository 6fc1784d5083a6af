-- Assignments that meet a tableau: any values of the variables that stand at its places give one. With zeros it is the vertex.
use Rattle.std.proofs.Common.{ℕ, pos, List, [], ◌∷◌, cond, eqb}
use Rattle.rational_theory.specs.Rational.{ℚ, whole, neg_ℚ}
use Rattle.rational_theory.specs.Rows.{dot}
use Rattle.simplex_theory.specs.Lines.{values}
use Rattle.simplex_theory.specs.Tableau.{Tableau}

-- the value of u: what its row asks for at the values k of the places, or f
abbrev pub filled : (ℕ → ℚ) → List ℚ → List ℕ → List (List ℚ) → ℕ → ℚ
filled f k [] cs u = f u
filled f k (b ∷ bs) [] u = f u
filled f k (b ∷ bs) (c ∷ cs) u = cond (eqb u b) (neg_ℚ (dot c k)) (filled f k bs cs u)

-- the assignment that has f at the variables of the places
unfoldable pub fill : Tableau → (ℕ → ℚ) → ℚ → ℕ → ℚ
fill t f z = filled f (values f z t.standing) t.basic t.rows

-- ---- the vertex
unfoldable pub vertex : Tableau → ℕ → ℚ
vertex t = fill t (λ v. whole (pos 0)) (whole (pos 1))
