use Rattle.std.proofs.Common.{refl}
use Rattle.plan_text.proofs.Copies.{copied_more, copied_all}
use Rattle.plan_text.proofs.reading.patterns_of.Goals as goal

pub loop-number-init : goal.loop-number-init
loop-number-init c = c.new-patterns.ensures.items

pub loop-number-preserved : goal.loop-number-preserved
loop-number-preserved c = copied_more c.loop-number.patterns.items c.args.numbers.now _ c.loop-number.number-index _ c.loop-number-test.true c.loop-number.invariant refl c.in_ok-push.ensures.items

pub returns : goal.returns
returns c = copied_all c.loop-number.patterns.items c.args.numbers.now c.loop-number.number-index c.loop-number-test.false c.loop-number.invariant
