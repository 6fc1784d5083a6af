use Rattle.std.proofs.Common.{◌+◌, List, [], ◌∷◌, map, drop, length, subst, ◌∙◌, ap, arith}
use Rattle.std.proofs.lemmas.Result.{err_from_is_err_and}
use Rattle.std.proofs.lemmas.List.{drop_all}
use Rattle.certificate_model.specs.Warrants.{Node, node_of, AreTrees}
use Rattle.certificate_checker.specs.TreeRefusals.{tree_refusal}
use Rattle.certificate_checker.proofs.NodeRefusals.{first_moved, node_left, tree_in}
use Rattle.std.proofs.lemmas.Grind.{common_steps}
use Rattle.certificate_checker.proofs.walk.check_tree.Goals as goal

pub returns-in_err-read-clause-first : goal.returns-in_err-read-clause-first
returns-in_err-read-clause-first g c =
    let rows = (g.K.CheckedKind.kind c.args.kind.now).rows in
    let p = err_from_is_err_and c.from_residual.result c.from_residual.ensures.1 in
    let left = node_left c.args.nodes.now c.loop-index.index c.index-nodes-index.result (omega (arith, c.loop-index-test.true)) c.index-nodes-index.is in
    rw (p.1, p.2)
    (first_moved _ _ _
    (c.loop-index.invariant.whole ∙ ap (tree_refusal rows c.args.aim.now c.loop-index.index c.loop-index.walk.leaves c.loop-index.walk.owed) left)
    (c.in_err-read.ensures.first (map node_of (drop (c.loop-index.index + 1) c.args.nodes.now))))

pub loop-index-preserved : goal.loop-index-preserved
loop-index-preserved g c =
    let rows = (g.K.CheckedKind.kind c.args.kind.now).rows in
    let left = node_left c.args.nodes.now c.loop-index.index c.index-nodes-index.result (omega (arith, c.loop-index-test.true)) c.index-nodes-index.is in
    let rest : List Node = map node_of (drop (c.loop-index.index + 1) c.args.nodes.now) in
    record {
      whole = c.loop-index.invariant.whole
          ∙ ap (tree_refusal rows c.args.aim.now c.loop-index.index c.loop-index.walk.leaves c.loop-index.walk.owed) left
          ∙ c.in_ok-read.ensures.right rest;
      trees = c.in_ok-read.ensures.trees rest (subst (AreTrees (length c.loop-index.walk.owed)) left c.loop-index.invariant.trees);
      ready = c.in_ok-read.ensures.ready;
      leaves = c.in_ok-read.ensures.leaves;
    }

pub returns-clause-proof : goal.returns-clause-proof
returns-clause-proof g c =
    let rows = (g.K.CheckedKind.kind c.args.kind.now).rows in
    let end = drop_all c.loop-index.index c.args.nodes.now (omega (arith, c.loop-index-test.false)) in
    tree_in rows c.args.aim.now 0 0 (c.args.root ∷ []) (map node_of c.args.nodes.now) c.requires.tree
    (c.loop-index.invariant.whole ∙ ap (λ ns. tree_refusal rows c.args.aim.now c.loop-index.index c.loop-index.walk.leaves c.loop-index.walk.owed (map node_of ns)) end)

pub read-requires : goal.read-requires
read-requires g c = grind (arith, common_steps)

pub returns-clause-none : goal.returns-clause-none
returns-clause-none g c = grind (arith, common_steps)
