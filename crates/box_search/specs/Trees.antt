-- The tree of a search as a certificate has it: node for node, without its vertices.
use Rattle.certificate_model.specs.Warrants.{Node, SplitAt, LeafOf}
use Rattle.branch_and_bound.specs.declared.node.TreeNode.{TreeNode}
use Rattle.branch_and_bound.specs.declared.node.TreeNode.TheVariants.{Split, Closed, Waiting}

abbrev pub node_of : TreeNode → Node
node_of (Split place point) = SplitAt place
node_of (Closed leaf) = LeafOf leaf.multipliers.items
node_of (Waiting leaf) = LeafOf leaf.multipliers.items
