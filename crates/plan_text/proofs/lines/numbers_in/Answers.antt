use Rattle.std.proofs.lemmas.Result.{err_from_is_err_and}
use Rattle.plan_text.specs.Lines.{numbers_in}
use Rattle.plan_text.proofs.Loop.{without_front, goes_on, stops, is_done, bytes_of}
use Rattle.plan_text.proofs.lines.numbers_in.Goals as goal

pub loop-word-init : goal.loop-word-init
loop-word-init c = rw c.new-numbers.ensures.items (without_front (numbers_in c.args.place (bytes_of c.args.words.now)))

pub returns-in_err-number : goal.returns-in_err-number
returns-in_err-number c =
    let p = err_from_is_err_and c.from_residual.result c.from_residual.ensures.1 in
    rw (p.1, p.2) (stops c.in_err-number.field-0.0 c.loop-word.numbers.items c.args.place c.loop-word.word-index c.args.words.now _
    (numbers_in c.args.place (bytes_of c.args.words.now)) c.loop-word-test.true c.in_err-number.ensures.exact c.loop-word.invariant)

pub loop-word-preserved : goal.loop-word-preserved
loop-word-preserved c =
    rw c.in_ok-push.ensures.items (goes_on c.loop-word.numbers.items c.args.place c.loop-word.word-index c.args.words.now _ c.in_ok-number.number
    (numbers_in c.args.place (bytes_of c.args.words.now)) c.loop-word-test.true c.in_ok-number.ensures.exact c.loop-word.invariant)

pub returns : goal.returns
returns c = is_done c.loop-word.numbers.items c.args.place c.loop-word.word-index c.args.words.now (numbers_in c.args.place (bytes_of c.args.words.now)) c.loop-word-test.false c.loop-word.invariant
