use Rattle.std.proofs.Common.{◌++◌}
use Rattle.std.proofs.lemmas.Result.{on_ok_weaker}
use Rattle.plan_text.proofs.Written.{pushed, whole}
use Rattle.plan_text.proofs.writing.push_spelled.Goals as goal

pub loop-number-preserved : goal.loop-number-preserved
loop-number-preserved c = pushed (c.args.out.now.items ++ c.args.key.now) c.args.numbers.now c.loop-number.number-index c.loop-number.out.items _
    c.loop-number-test.true c.loop-number.invariant c.in_ok-push_spaced.ensures

pub returns : goal.returns
returns c = on_ok_weaker c.push_text.result (whole c.args.out.now.items c.args.key.now c.args.numbers.now c.loop-number.number-index c.loop-number.out.items
    _ c.loop-number-test.false c.loop-number.invariant) c.push_text.ensures
