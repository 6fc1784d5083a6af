-- Terms that the linear decisions share.
use Rattle.std.proofs.Common.{ℕ, pos, negsuc}
use Rattle.rational_theory.proofs.Ring.{at, lit, minus, Term, ◌⊕◌, ◌⊗◌}
use Rattle.rational_theory.proofs.Linear.{Fact}

abbrev pub one : Term
one = lit (pos 1)

abbrev pub less_one : Term
less_one = lit (negsuc 0)

abbrev pub zero_term : Term
zero_term = lit (pos 0)

-- the i-th value is at most the j-th
abbrev pub fact : ℕ → ℕ → Fact
fact i j = record { count = 1; low = at i; high = at j }

-- a block sum
abbrev pub block_term : (w w' v v' y y' s s' r r' k k' : Term) → Term
block_term w w' v v' y y' s s' r r' k k' = w ⊕ w' ⊕ minus v ⊕ minus v' ⊕ y ⊕ y' ⊕ s ⊕ minus s' ⊕ r ⊕ minus r' ⊕ minus k ⊕ minus k'

-- that of the values 0 to 7, which are those of its columns, and of its reds and clearances after them
abbrev pub whole_term : Term
whole_term = block_term (at 0) (at 1) (at 2) (at 3) (at 4) (at 5) (at 6) (at 7) (at 8) (at 9) (at 10) (at 11)

-- the columns, each added or taken away as a row has them
abbrev pub cells_term : Term → Term → Term
cells_term p m =
    p ⊗ at 0 ⊕ (m ⊗ at 2 ⊕ (p ⊗ at 1 ⊕ (m ⊗ at 3 ⊕ (p ⊗ at 4 ⊕ (p ⊗ at 5 ⊕ (p ⊗ at 6 ⊕ (m ⊗ at 7 ⊕ zero_term)))))))

-- the reds and clearances
abbrev pub constant_term : Term
constant_term = at 8 ⊕ minus (at 9) ⊕ minus (at 10) ⊕ minus (at 11)
