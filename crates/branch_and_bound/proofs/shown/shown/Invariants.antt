use Rattle.branch_and_bound.proofs.Showing.{AreShown}
use Rattle.branch_and_bound.proofs.shown.shown.Given as goal

abbrev pub invariant-loop-index : goal.invariant-loop-index
invariant-loop-index g l = AreShown l.incumbent l.undone l.fn.nodes.items l.index-iterator.iter.rest.items l.index-iterator.count l.tree.items
