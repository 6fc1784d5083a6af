-- Which nodes are settled.
use Rattle.std.proofs.Common.{List, Option, Some, None, subst, arith, length}
use Rattle.std.specs.Prelude.{All}
use Rattle.std.proofs.lemmas.List.{take_all}
use Rattle.std.proofs.lemmas.List.Elements.{All-weaker}
use Rattle.rational_theory.specs.Rational.{ℚ}
use Rattle.rational_theory.proofs.Order.{≤ℚ_trans}
use Rattle.branch_and_bound.specs.Incumbents.{IsReached}
use Rattle.branch_and_bound.specs.Greatest.{IsOverBound, IsGreatest, IsSettled, bound_of}
use Rattle.branch_and_bound.specs.declared.incumbent.Incumbent.{Incumbent}
use Rattle.branch_and_bound.specs.declared.node.Node.{Node}
use Rattle.branch_and_bound.specs.declared.greatest.Greatest.{Greatest}

over_reached : {T : Type 0} (g : Greatest) (best : Option (Incumbent T)) (o : Option ℚ) → IsReached g.bound best → IsOverBound (Some g) o → IsSettled best o
over_reached g best None h k = tt
over_reached g None (Some b) h k = absurd h
over_reached g (Some best) (Some b) h k = ≤ℚ_trans b g.bound best.value k h

-- the greatest of all nodes is at least each bound
pub over_all : {K : Type 0} (nodes : List (Node K)) (g : Option Greatest) → IsGreatest nodes (length nodes) g → All (λ node. IsOverBound g (bound_of node)) nodes
over_all nodes g h = subst (λ ns. All (λ n. IsOverBound g (bound_of n)) ns) (take_all (length nodes) nodes (omega arith)) h.over

-- the best value is at least the greatest bound
pub all_settled : {T K : Type 0} (nodes : List (Node K)) (best : Option (Incumbent T)) (g : Greatest) → IsGreatest nodes (length nodes) (Some g)
    → IsReached g.bound best → All (λ node. IsSettled best (bound_of node)) nodes
all_settled nodes best g h r = All-weaker (λ n. IsOverBound (Some g) (bound_of n)) (λ n. IsSettled best (bound_of n)) (λ n k. over_reached g best (bound_of n) r k) nodes (over_all nodes (Some g) h)
