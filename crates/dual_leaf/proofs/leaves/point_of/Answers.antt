use Rattle.std.proofs.Common.{sym, subst}
use Rattle.dual_leaf.specs.Leaves.{ReachesOptimum}
use Rattle.dual_leaf.proofs.LeafLaws.{reaches_optimum}
use Rattle.dual_leaf.proofs.leaves.point_of.Goals as goal

pub returns-clause-optimum : goal.returns-clause-optimum
returns-clause-optimum c = subst (ReachesOptimum c.args.tableau.now.table) (sym c.in_ok-values.ensures) (reaches_optimum c.args.tableau.now.table)
