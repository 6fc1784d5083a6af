-- Two trees whose nodes correspond, one by one.
use Rattle.std.proofs.Common.{ℕ, suc, List, [], ◌∷◌}

-- each node with its index, which counts from i, and the node of the other tree are as R says
abbrev pub Matches : {N M : Type 0} → (ℕ → N → M → Type 0) → ℕ → List N → List M → Type 0
Matches R i [] [] = Unit {0}
Matches R i [] (other ∷ others) = ⊥
Matches R i (node ∷ nodes) [] = ⊥
Matches R i (node ∷ nodes) (other ∷ others) = R i node other × Matches R (suc i) nodes others
