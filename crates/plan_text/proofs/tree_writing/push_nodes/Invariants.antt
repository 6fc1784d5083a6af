use Rattle.std.proofs.Common.{◌≡◌, ◌++◌, map, take, All}
use Rattle.std.specs.Prelude.{flat_map}
use Rattle.plan_text.specs.Spelling.{ended}
use Rattle.certificate_model.specs.Warrants.{node_of}
use Rattle.plan_text.specs.CertificateText.{IsHeldNode}
use Rattle.plan_text.specs.Namings.{naming_of, node_lines}
use Rattle.plan_text.proofs.tree_writing.push_nodes.Given as goal

abbrev pub invariant-loop-node : goal.invariant-loop-node
invariant-loop-node l = record {
  text : l.out.items ≡ l.fn.out.items ++ ended (flat_map (node_lines (naming_of l.names)) (map node_of (take l.node-index l.nodes)));
  held : All IsHeldNode (map node_of (take l.node-index l.nodes));
}
