use Rattle.std.proofs.Common.{◌∙◌, subst, sym}
use Rattle.branch_and_bound.specs.State.{IsShown}
use Rattle.branch_and_bound.proofs.Showing.{none_shown, one_more, all_shown}
use Rattle.branch_and_bound.proofs.shown.shown.Goals as goal

pub loop-index-init : goal.loop-index-init
loop-index-init g c = rw (
  c.into_iter-index-iterator.ensures.into_iter_gives,
  c.enumerate-index-items.ensures.source,
  c.enumerate-index-items.ensures.count,
  c.into_iter.ensures.rest,
  c.new-tree.ensures.items,
) (none_shown c.args.incumbent.now c.args.undone c.args.nodes.items)

pub loop-index-preserved : goal.loop-index-preserved
loop-index-preserved g c =
    let s = c.in-Some.ensures.steps in
    let here = subst (λ i. IsShown c.args.incumbent.now c.args.undone i c.in-Some.node c.shown_node.result) s.1 c.shown_node.ensures in
    let k = one_more c.args.incumbent.now c.args.undone c.args.nodes.items c.loop-index.index-iterator.iter.rest.items c.next.new.self.iter.rest.items c.loop-index.index-iterator.count c.in-Some.node
    c.loop-index.tree.items c.shown_node.result c.push.new.items.items c.loop-index.invariant s.0.0 here c.in_ok-push.ensures in
    rw s.2 k

pub returns : goal.returns
returns g c =
    let rest = c.loop-index.index-iterator.iter.rest in
    all_shown c.args.incumbent.now c.args.undone c.args.nodes.items rest.items c.loop-index.index-iterator.count c.loop-index.tree.items c.loop-index.invariant
    (sym rest.ok.0 ∙ c.in-None.ensures.steps.0.0)
