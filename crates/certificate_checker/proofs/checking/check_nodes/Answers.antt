use Rattle.std.proofs.Common.{None, OnOk, length, map, sym, subst, ◌≡◌, ◌∙◌, ap}
use Rattle.std.specs.Prelude.{IfErr}
use Rattle.named_row.specs.Sheets.{Sheet}
use Rattle.certificate_model.specs.Warrants.{node_of}
use Rattle.certificate_checker.specs.TreeRefusals.{IsFirst}
use Rattle.certificate_checker.proofs.NodeRefusals.{same_tree}
use Rattle.certificate_checker.proofs.checking.check_nodes.Goals as goal

pub check_tree-requires-clause-width : goal.check_tree-requires-clause-width
check_tree-requires-clause-width g c = λ box. ap (λ (r : Sheet). length r.coefs) c.in_ok-goal.ensures ∙ c.in_ok-root.ensures.width box

pub returns : goal.returns
returns g c =
    let same = sym (same_tree (g.K.CheckedKind.kind c.args.kind.now) c.args.limit c.in_ok-goal.goal c.in_ok-root.root (map node_of c.args.nodes.now) c.in_ok-goal.ensures c.in_ok-root.ensures.root) in
    record {
      none = subst (λ o. OnOk c.check_tree.result (o ≡ None)) same c.check_tree.ensures.none;
      first = subst (λ o. IfErr c.check_tree.result (λ r. IsFirst o r)) same c.check_tree.ensures.first;
    }
