-- The waiting node with the greatest bound.
use Rattle.std.specs.Prelude.{◌≡◌, ℕ, List, Option, Some, None, All, IfSome, take}
use Rattle.std.specs.List.{slice_get}
use Rattle.rational_theory.specs.Rational.{ℚ, ◌≤ℚ◌, ◌<ℚ◌}
use Rattle.branch_and_bound.specs.Incumbents.{IsReached}
use Rattle.branch_and_bound.specs.declared.incumbent.Incumbent.{Incumbent}
use Rattle.branch_and_bound.specs.declared.node.Node.{Node}
use Rattle.branch_and_bound.specs.declared.node.Node.TheVariants.{Split, Closed, Waiting}
use Rattle.branch_and_bound.specs.declared.greatest.Greatest.{Greatest}

-- the bound of a node that waits
abbrev pub bound_of : {K : Type 0} → Node K → Option ℚ
bound_of (Split place point) = None
bound_of (Closed leaf) = None
bound_of (Waiting area leaf bound place point kept) = Some bound

-- the greatest is at least this bound
abbrev pub IsOverBound : Option Greatest → Option ℚ → Type 0
IsOverBound g None = Unit {0}
IsOverBound None (Some bound) = ⊥
IsOverBound (Some g) (Some bound) = bound ≤ℚ g.bound

-- a bound is more than the greatest
abbrev pub IsOverAll : Option Greatest → ℚ → Type 0
IsOverAll None bound = Unit {0}
IsOverAll (Some g) bound = g.bound <ℚ bound

-- a bound that doesn't wait, or is less than this one
abbrev pub IsLess : ℚ → Option ℚ → Type 0
IsLess bound None = Unit {0}
IsLess bound (Some other) = other <ℚ bound

-- the node at an index waits with this bound
pub record Waits {K : Type 0} (nodes : List (Node K)) (index : ℕ) (bound : ℚ) : Type 0 where
  pub node : Node K
  pub at : slice_get nodes index ≡ Some node
  pub waits : bound_of node ≡ Some bound

-- the greatest of the first nodes, and the first of such
pub record IsGreatest {K : Type 0} (nodes : List (Node K)) (count : ℕ) (g : Option Greatest) : Type 0 where
  pub over : All (λ node. IsOverBound g (bound_of node)) (take count nodes)
  pub waits : IfSome g (λ h. Waits nodes h.index h.bound)
  pub first : IfSome g (λ h. All (λ node. IsLess h.bound (bound_of node)) (take h.index nodes))

-- the larger of the greatest so far and one more node
pub record IsSame {K : Type 0} (old new : Option Greatest) (node : Node K) : Type 0 where
  pub same : new ≡ old
  pub over : IsOverBound old (bound_of node)

pub record IsLarger {K : Type 0} (old new : Option Greatest) (index : ℕ) (node : Node K) : Type 0 where
  pub bound : ℚ
  pub is : bound_of node ≡ Some bound
  pub new_is : new ≡ Some (record { index = index; bound = bound })
  pub over : IsOverAll old bound

-- a bound that is no more than the best timing's value
abbrev pub IsSettled : {T : Type 0} → Option (Incumbent T) → Option ℚ → Type 0
IsSettled best None = Unit {0}
IsSettled best (Some bound) = IsReached bound best
