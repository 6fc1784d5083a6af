use Rattle.std.proofs.Common.{sym, subst}
use Rattle.dual_leaf.specs.Leaves.{LeafCovers}
use Rattle.dual_leaf.proofs.LeafLaws.{goal_leaf_covers}
use Rattle.dual_leaf.proofs.leaves.leaf_of.Goals as goal

pub returns-clause-covers : goal.returns-clause-covers
returns-clause-covers c = subst (LeafCovers c.args.tableau.now) (sym c.in_ok-multipliers.ensures) (goal_leaf_covers c.args.tableau.now)
