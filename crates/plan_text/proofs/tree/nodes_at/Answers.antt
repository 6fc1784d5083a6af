use Rattle.std.proofs.Common.{arith, sym, subst}
use Rattle.std.proofs.lemmas.Result.{err_from_is_err_and}
use Rattle.plan_text.specs.Namings.{naming_of}
use Rattle.plan_text.proofs.NodeLoop.{goes_on, no_node, is_done, IsOnTheWay}
use Rattle.plan_text.proofs.tree.nodes_at.Goals as goal

pub returns-in_err-node-clause-exact : goal.returns-in_err-node-clause-exact
returns-in_err-node-clause-exact c =
    let p = err_from_is_err_and c.from_residual.result c.from_residual.ensures.1 in
    rw (p.1, p.2) (no_node (naming_of c.args.names) c.in_err-node.field-0.0 c.trees.nodes.items c.trees.owed c.trees.line c.args.line c.trees.rest.now
    c.args.bytes.now c.trees-test.true c.in_err-node.ensures.exact c.trees.invariant)

pub trees-preserved : goal.trees-preserved
trees-preserved c =
    subst (λ owed. IsOnTheWay (naming_of c.args.names) c.push.new.self.items owed c.in_ok-node.next c.in_ok-node.after.now c.args.line c.args.bytes.now) (sym c.owed_after-owed.ensures)
    (goes_on (naming_of c.args.names) c.trees.nodes.items c.push.new.self.items c.in_ok-node.node c.trees.owed c.trees.line c.in_ok-node.next c.args.line
    c.trees.rest.now c.in_ok-node.after.now c.args.bytes.now c.trees-test.true c.in_ok-node.ensures.exact c.in_ok-node.ensures.shorter
    c.in_ok-node.ensures.lines c.in_ok-push.ensures.items c.trees.invariant)

pub returns-clause-exact : goal.returns-clause-exact
returns-clause-exact c = is_done (naming_of c.args.names) c.trees.nodes.items c.trees.owed c.trees.line c.args.line c.trees.rest.now c.args.bytes.now
    (omega (arith, c.trees-test.false)) c.trees.invariant
