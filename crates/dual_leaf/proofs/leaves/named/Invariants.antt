use Rattle.std.proofs.Common.{◌≡◌, get_or, pos}
use Rattle.rational_theory.specs.Rational.{whole}
use Rattle.dual_leaf.specs.Leaves.{multipliers_below}
use Rattle.dual_leaf.proofs.leaves.named.Given as goal

abbrev pub invariant-loop-row : goal.invariant-loop-row
invariant-loop-row l = l.list.items ≡ multipliers_below l.tableau.names (λ r. get_or l.weights r (whole (pos 0))) l.row
