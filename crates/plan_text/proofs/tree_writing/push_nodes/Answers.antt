use Rattle.std.proofs.Common.{◌≡◌, ◌++◌, map, All, List, subst, sym, append-nil, arith}
use Rattle.std.specs.Prelude.{flat_map}
use Rattle.std.proofs.lemmas.List.{take_all}
use Rattle.certificate_model.specs.declared.certificate.CertNode.{CertNode}
use Rattle.plan_text.specs.Spelling.{ended}
use Rattle.certificate_model.specs.Warrants.{node_of}
use Rattle.plan_text.specs.CertificateText.{IsHeldNode}
use Rattle.plan_text.specs.Namings.{naming_of, node_lines}
use Rattle.plan_text.proofs.Written.{more_flat}
use Rattle.plan_text.proofs.WrittenTexts.{more_held, node_here}
use Rattle.plan_text.proofs.tree_writing.push_nodes.Goals as goal

pub loop-node-init : goal.loop-node-init
loop-node-init c = record { text = sym (append-nil c.args.out.now.items); held = λ k d lt. absurd (omega arith) }

pub push_node-requires : goal.push_node-requires
push_node-requires c = node_here (naming_of c.args.names) c.args.nodes.now c.loop-node.node-index _ c.node-item.result c.loop-node-test.true c.node-item.is c.requires

pub loop-node-preserved : goal.loop-node-preserved
loop-node-preserved c =
    let nodes = c.args.nodes.now in
    let place = c.loop-node.node-index in
    record {
      text = more_flat node_of (node_lines (naming_of c.args.names)) c.args.out.now.items nodes place _ c.node-item.result c.loop-node.out.items _
          c.loop-node-test.true c.node-item.is c.loop-node.invariant.text c.in_ok-push_node.ensures.text;
      held = more_held nodes place _ c.node-item.result c.loop-node-test.true c.node-item.is c.loop-node.invariant.held c.in_ok-push_node.ensures.held;
    }

pub returns : goal.returns
returns c =
    let all = take_all c.loop-node.node-index c.args.nodes.now c.loop-node-test.false in
    record {
      text = subst (λ (ns : List CertNode). c.loop-node.out.items ≡ c.args.out.now.items ++ ended (flat_map (node_lines (naming_of c.args.names)) (map node_of ns))) all c.loop-node.invariant.text;
      held = subst (λ (ns : List CertNode). All IsHeldNode (map node_of ns)) all c.loop-node.invariant.held;
    }
