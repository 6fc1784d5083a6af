use Rattle.std.proofs.Common.{sym}
use Rattle.plan_text.proofs.Cuts.{cut_shorter, cut_is, pushed, last_pushed}
use Rattle.plan_text.proofs.cut.words.Goals as goal

pub cuts-smaller : goal.cuts-smaller
cuts-smaller c = cut_shorter 32 c.cuts.rest.now c.in-Some.word.now c.in-Some.after.now (cut_is c.cut.result (c.in-Some.word, c.in-Some.after) _ c.cut.ensures c.in-Some.is)

pub cuts-preserved : goal.cuts-preserved
cuts-preserved c =
    rw c.in_ok-push.ensures.items (pushed c.cuts.found.items c.in-Some.word c.args.line.now c.cuts.rest.now c.in-Some.after.now c.cuts.invariant
    (cut_is c.cut.result (c.in-Some.word, c.in-Some.after) _ c.cut.ensures c.in-Some.is))

pub returns : goal.returns
returns c =
    rw c.in_ok-push-2.ensures.items (last_pushed c.cuts.found.items c.cuts.rest c.args.line.now c.cuts.invariant (sym c.in_default.ensures))
