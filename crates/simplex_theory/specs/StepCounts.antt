-- The number of dual steps to an end: it is below 2 ^ (rows + width), since there are no more sets of basic variables, and a
-- step lowers it by one.
use Rattle.std.proofs.Common.{ℕ, zero, suc, Bool, true, false, ◌+◌}
use Rattle.simplex_theory.specs.Tableau.{Tableau, height, width}
use Rattle.simplex_theory.specs.BlandRule.{Move, optimal, infeasible, pivoted, move, next}

-- ---- a number for each set of basic variables
unfoldable pub room : ℕ → ℕ
room zero = 1
room (suc n) = room n + room n

-- ---- steps
abbrev pub is_pivot : Move → Bool
is_pivot optimal = false
is_pivot (infeasible r) = false
is_pivot (pivoted r j) = true

-- the tableau after k steps; an end stays as it is
unfoldable pub after : Tableau → ℕ → Tableau
after t zero = t
after t (suc k) = next (after t k)

abbrev pub counted : Move → ℕ → ℕ
counted optimal n = 0
counted (infeasible r) n = 0
counted (pivoted r j) n = suc n

-- the steps to an end, n of them at most
unfoldable pub steps : ℕ → Tableau → ℕ
steps zero t = 0
steps (suc n) t = counted (move t) (steps n (next t))

-- the steps to an end
unfoldable pub steps_to_end : Tableau → ℕ
steps_to_end t = steps (room (height t + width t)) t
