use Rattle.branch_and_bound.proofs.Largest.{next_greatest}
use Rattle.branch_and_bound.proofs.greatest.find_greatest.Goals as goal

pub loop-index-preserved : goal.loop-index-preserved
loop-index-preserved g c =
    next_greatest c.args.nodes.now c.loop-index.index c.index-nodes-index.result c.loop-index.greatest c.enlarge.new.greatest
    c.loop-index-test.true c.index-nodes-index.is c.loop-index.invariant c.enlarge.ensures
