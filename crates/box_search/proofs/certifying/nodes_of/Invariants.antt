use Rattle.std.proofs.Common.{◌≡◌, map, take}
use Rattle.certificate_model.specs.Warrants as warrants
use Rattle.box_search.specs.Trees as trees
use Rattle.box_search.proofs.certifying.nodes_of.Given as goal

abbrev pub invariant-loop-node : goal.invariant-loop-node
invariant-loop-node l = map warrants.node_of l.made.items ≡ map trees.node_of (take l.node-index l.nodes)
