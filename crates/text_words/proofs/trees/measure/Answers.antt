use Rattle.std.proofs.Common.{◌∙◌, arith}
use Rattle.text_words.proofs.NodeCounts.{splits_more, leaves_more}
use Rattle.text_words.proofs.trees.measure.Goals as goal

pub loop-node-preserved : goal.loop-node-preserved
loop-node-preserved c =
    let at = c.loop-node-test.true in
    let found = c.with_node-found.ensures in (
      found.splits ∙ splits_more c.args.nodes.now c.loop-node.node-index c.loop-node.found.splits c.node-item.result at c.node-item.is c.loop-node.invariant.0,
      found.leaves ∙ leaves_more c.args.nodes.now c.loop-node.node-index c.loop-node.found.leaves c.node-item.result at c.node-item.is c.loop-node.invariant.1,
      omega (arith, found.one, c.loop-node.invariant.2),
    )
