use Rattle.plan_text.proofs.Copies.{copied_more, copied_all}
use Rattle.plan_text.proofs.writing.widened.Goals as goal

pub loop-pattern-init : goal.loop-pattern-init
loop-pattern-init c = c.new-wide.ensures.items

pub loop-pattern-preserved : goal.loop-pattern-preserved
loop-pattern-preserved c = copied_more c.loop-pattern.wide.items c.args.patterns.now _ c.loop-pattern.pattern-index c.from.result c.loop-pattern-test.true
    c.loop-pattern.invariant c.from.ensures c.in_ok-push.ensures.items

pub returns : goal.returns
returns c = copied_all c.loop-pattern.wide.items c.args.patterns.now c.loop-pattern.pattern-index c.loop-pattern-test.false c.loop-pattern.invariant
