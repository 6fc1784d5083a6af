use Rattle.std.proofs.Common.{map, None}
use Rattle.std.proofs.lemmas.Result.{err_from_is_err_and}
use Rattle.plan_text.specs.Namings.{naming_of}
use Rattle.plan_text.specs.CertificateReading.{row_of_weight, weight_of, weights_at}
use Rattle.plan_text.proofs.RowLoop.{goes_on, no_words, no_weight, is_done, words_are}
use Rattle.plan_text.proofs.row.weights_at.Goals as goal

pub returns-in_err-words : goal.returns-in_err-words
returns-in_err-words c =
    let p = err_from_is_err_and c.from_residual.result c.from_residual.ensures.1 in
    rw (p.1, p.2) (no_words row_of_weight (weight_of (naming_of c.args.names) c.args.form) c.in_err-words.field-0.0 c.loop-place.weights.items c.args.count
    c.loop-place.place c.loop-place.last c.args.line c.loop-place.rest.now
    (weights_at (naming_of c.args.names) c.args.form c.args.count None c.args.line c.args.bytes.now) c.loop-place-test.true c.in_err-words.ensures c.loop-place.invariant)

pub returns-in_err-weight : goal.returns-in_err-weight
returns-in_err-weight c =
    let p = err_from_is_err_and c.from_residual-in_err-weight.result c.from_residual-in_err-weight.ensures.1 in
    rw (p.1, p.2) (no_weight row_of_weight (weight_of (naming_of c.args.names) c.args.form) c.in_err-weight.field-0.0 c.loop-place.weights.items
    c.args.count c.loop-place.place c.loop-place.last c.args.line c.loop-place.rest.now (map (λ w. w.now) c.as_slice.result.now, c.in_ok-words.after.now)
    (weights_at (naming_of c.args.names) c.args.form c.args.count None c.args.line c.args.bytes.now) c.loop-place-test.true
    (words_are c.as_slice.result.now c.in_ok-words.words.items c.in_ok-words.after.now _ c.as_slice.ensures.value c.in_ok-words.ensures) c.in_err-weight.ensures c.loop-place.invariant)

pub loop-place-preserved : goal.loop-place-preserved
loop-place-preserved c =
    rw c.in_ok-push.ensures.items (goes_on row_of_weight (weight_of (naming_of c.args.names) c.args.form) c.loop-place.weights.items c.args.count
    c.loop-place.place c.loop-place.last c.args.line c.loop-place.rest.now (map (λ w. w.now) c.as_slice.result.now, c.in_ok-words.after.now) c.in_ok-weight.weight
    (weights_at (naming_of c.args.names) c.args.form c.args.count None c.args.line c.args.bytes.now) c.loop-place-test.true
    (words_are c.as_slice.result.now c.in_ok-words.words.items c.in_ok-words.after.now _ c.as_slice.ensures.value c.in_ok-words.ensures) c.in_ok-weight.ensures c.loop-place.invariant)

pub returns : goal.returns
returns c = is_done row_of_weight (weight_of (naming_of c.args.names) c.args.form) c.loop-place.weights.items c.args.count c.loop-place.place
    c.loop-place.last c.args.line c.loop-place.rest.now (weights_at (naming_of c.args.names) c.args.form c.args.count None c.args.line c.args.bytes.now) c.loop-place-test.false c.loop-place.invariant
