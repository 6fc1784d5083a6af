use Rattle.whole_plan.proofs.Wholes.{near_tried, named_tried, all_whole}
use Rattle.whole_plan.proofs.cycles.tried_cycles.Goals as goal

pub returns-then-is_empty-clause-tried : goal.returns-then-is_empty-clause-tried
returns-then-is_empty-clause-tried c =
    near_tried c.args.artery.now c.args.given.now c.args.named.now c.centre.result c.as_slice.result.now c.in_ok-cycles.cycles.items c.is_empty.result
    c.centre.ensures.value c.as_slice.ensures.value c.in_ok-cycles.ensures.cycles c.is_empty.ensures c.if-is_empty.true c.nearest.result c.nearest.ensures

pub returns-then-is_empty-clause-whole : goal.returns-then-is_empty-clause-whole
returns-then-is_empty-clause-whole c = all_whole c.args.artery.now c.args.given.now c.args.named.now c.nearest.result (returns-then-is_empty-clause-tried c)

pub returns-clause-tried : goal.returns-clause-tried
returns-clause-tried c =
    named_tried c.args.artery.now c.args.given.now c.args.named.now c.as_slice-2.result.now c.in_ok-cycles.cycles.items c.is_empty.result
    c.as_slice-2.ensures.value c.in_ok-cycles.ensures.cycles c.is_empty.ensures c.if-is_empty.false c.named_of.result c.named_of.ensures

pub returns-clause-whole : goal.returns-clause-whole
returns-clause-whole c = all_whole c.args.artery.now c.args.given.now c.args.named.now c.named_of.result (returns-clause-tried c)
