use Rattle.std.proofs.Common.{sym, get_or}
use Rattle.std.proofs.lemmas.Grind.{get_or_default_zero}
use Rattle.whole_plan.proofs.Finishing.{next_of}
use Rattle.whole_plan.proofs.planning.chosen.Goals as goal

pub loop-seconds-preserved : goal.loop-seconds-preserved
loop-seconds-preserved c =
    let cycles = c.args.cycles.now in
    let i = c.loop-seconds.seconds-index in
    next_of c.args.artery.now c.args.given.now cycles i (get_or cycles i 0) c.loop-seconds.so_far c.in_ok-so_far.so_far c.loop-seconds-test.true
    (sym (get_or_default_zero cycles i (get_or cycles i 0) c.loop-seconds-test.true)) c.in_ok-so_far.ensures c.loop-seconds.invariant
