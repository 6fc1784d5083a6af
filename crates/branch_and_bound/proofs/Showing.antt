-- The nodes that are answered so far.
use Rattle.std.proofs.Common.{◌≡◌, ◌++◌, ℕ, ◌+◌, List, [], ◌∷◌, Option, length, refl, sym, subst, ◌∙◌, ap, arith, append_assoc}
use Rattle.branch_and_bound.specs.Matchings.{Matches}
use Rattle.branch_and_bound.proofs.Matchings.{Matches-more}
use Rattle.branch_and_bound.specs.State.{IsShown}
use Rattle.branch_and_bound.specs.declared.incumbent.Incumbent.{Incumbent}
use Rattle.branch_and_bound.specs.declared.node.Node.{Node}
use Rattle.branch_and_bound.specs.declared.node.TreeNode.{TreeNode}

-- those before the rest
pub record AreShown {T K : Type 0} (best : Option (Incumbent T)) (spared : Option ℕ) (nodes rest : List (Node K)) (count : ℕ) (shown : List TreeNode) : Type 0 where
  pub front : List (Node K)
  pub whole : nodes ≡ front ++ rest
  pub count_is : count ≡ length front
  pub matches : Matches (IsShown best spared) 0 front shown

append_nil : {X : Type 0} (xs : List X) → xs ≡ xs ++ []
append_nil [] = refl
append_nil (x ∷ xs) = ap (λ ys. x ∷ ys) (append_nil xs)

length_more : {X : Type 0} (xs : List X) (x : X) → length (xs ++ x ∷ []) ≡ length xs + 1
length_more [] x = omega arith
length_more (y ∷ xs) x = omega (arith, length_more xs x)

-- one more
pub one_more : {T K : Type 0} (best : Option (Incumbent T)) (spared : Option ℕ) (nodes rest more : List (Node K)) (count : ℕ) (node : Node K)
    (shown : List TreeNode) (other : TreeNode) (new : List TreeNode)
    → AreShown best spared nodes rest count shown → rest ≡ node ∷ more → IsShown best spared count node other → new ≡ shown ++ other ∷ []
    → AreShown best spared nodes more (count + 1) new
one_more best spared nodes rest more count node shown other new h e s n =
    let here : 0 + length h.front ≡ count = omega (arith, h.count_is) in
    record {
      front = h.front ++ node ∷ [];
      whole = h.whole ∙ ap (λ r. h.front ++ r) e ∙ sym (append_assoc h.front (node ∷ []) more);
      count_is = omega (arith, h.count_is, length_more h.front node);
      matches = subst (λ ns. Matches (IsShown best spared) 0 (h.front ++ node ∷ []) ns) (sym n)
          (Matches-more (IsShown best spared) 0 h.front shown node other h.matches (subst (λ i. IsShown best spared i node other) (sym here) s));
    }

-- all
pub all_shown : {T K : Type 0} (best : Option (Incumbent T)) (spared : Option ℕ) (nodes rest : List (Node K)) (count : ℕ) (shown : List TreeNode)
    → AreShown best spared nodes rest count shown → length rest ≡ 0 → Matches (IsShown best spared) 0 nodes shown
all_shown best spared nodes [] count shown h e = subst (λ ns. Matches (IsShown best spared) 0 ns shown) (append_nil h.front ∙ sym h.whole) h.matches
all_shown best spared nodes (node ∷ rest) count shown h e = absurd (omega arith)

pub none_shown : {T K : Type 0} (best : Option (Incumbent T)) (spared : Option ℕ) (nodes : List (Node K)) → AreShown best spared nodes nodes 0 []
none_shown best spared nodes = record { front = []; whole = refl; count_is = refl; matches = tt }
