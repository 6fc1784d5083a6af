-- The list of the basic variables of a tableau in ascending order.
use Rattle.std.proofs.Common.{ℕ, zero, suc, Bool, cond, List, [], ◌∷◌, ◌+◌}
use Rattle.simplex_theory.specs.Tableau.{Tableau, height, width}
use Rattle.entry_theory.specs.Entry.{is_among}

-- the numbers from a on, n of them looked at, that pass
unfoldable pub listed : (ℕ → Bool) → ℕ → ℕ → List ℕ
listed f a zero = []
listed f a (suc n) = cond (f a) (a ∷ listed f (suc a) n) (listed f (suc a) n)

-- the basic variables, ascending
unfoldable pub basics_of : Tableau → List ℕ
basics_of t = listed (is_among t.basic) 0 (height t + width t)
