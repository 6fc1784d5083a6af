use Rattle.std.proofs.Common.{arith}
use Rattle.std.proofs.lemmas.Grind.{elements}
use Rattle.limit_sensitivity.proofs.Ranked.{list_next}
use Rattle.limit_sensitivity.proofs.ranking.ranked.Goals as goal

pub loop-timed-preserved : goal.loop-timed-preserved
loop-timed-preserved c =
    list_next c.args.base.now c.args.all.now c.loop-timed.list.items c.put_gaining.new.others.items c.loop-timed.timed-index c.timed-item.result c.copied.result c.loop-timed-test.true c.timed-item.is
    c.copied.ensures c.in_ok-put_gaining.ensures c.loop-timed.invariant

pub returns : goal.returns
returns c = grind (arith, elements)
