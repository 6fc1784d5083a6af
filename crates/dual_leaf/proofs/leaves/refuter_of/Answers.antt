use Rattle.std.proofs.Common.{sym, subst}
use Rattle.dual_leaf.specs.Leaves.{LeafRefutes}
use Rattle.dual_leaf.proofs.LeafLaws.{row_leaf_refutes}
use Rattle.dual_leaf.proofs.leaves.refuter_of.Goals as goal

pub returns-clause-refutes : goal.returns-clause-refutes
returns-clause-refutes c =
    subst (LeafRefutes c.args.tableau.now) (sym c.in_ok-multipliers.ensures.list)
    (row_leaf_refutes c.args.tableau.now c.args.row c.in_ok-multipliers.ensures.shape.named c.requires.row c.requires.bound c.requires.cells)
