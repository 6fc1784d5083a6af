use Rattle.std.proofs.Common.{◌+◌, map, None, arith}
use Rattle.std.proofs.lemmas.Result.{err_from_is_err_and}
use Rattle.certificate_model.specs.Families.{table_of}
use Rattle.plan_text.specs.CertificateReading.{own_row, row_of, names_at}
use Rattle.plan_text.proofs.RowLoop.{goes_on, no_words, no_weight, is_done, words_are}
use Rattle.plan_text.proofs.WordLines.{words_shorter}
use Rattle.plan_text.proofs.row_list.names_at.Goals as goal

pub returns-in_err-words-clause-exact : goal.returns-in_err-words-clause-exact
returns-in_err-words-clause-exact c =
    let p = err_from_is_err_and c.from_residual.result c.from_residual.ensures.1 in
    rw (p.1, p.2) (no_words own_row (row_of (table_of c.args.names.now)) c.in_err-words.field-0.0 c.loop-place.rows.items c.args.count c.loop-place.place
    c.loop-place.last c.args.line c.loop-place.rest.now
    (names_at (table_of c.args.names.now) c.args.count None c.args.line c.args.bytes.now) c.loop-place-test.true c.in_err-words.ensures c.loop-place.invariant.read)

pub returns-in_err-row-clause-exact : goal.returns-in_err-row-clause-exact
returns-in_err-row-clause-exact c =
    let p = err_from_is_err_and c.from_residual-in_err-row.result c.from_residual-in_err-row.ensures.1 in
    rw (p.1, p.2) (no_weight own_row (row_of (table_of c.args.names.now)) c.in_err-row.field-0.0 c.loop-place.rows.items c.args.count c.loop-place.place
    c.loop-place.last c.args.line c.loop-place.rest.now (map (λ w. w.now) c.as_slice.result.now, c.in_ok-words.after.now)
    (names_at (table_of c.args.names.now) c.args.count None c.args.line c.args.bytes.now) c.loop-place-test.true
    (words_are c.as_slice.result.now c.in_ok-words.words.items c.in_ok-words.after.now _ c.as_slice.ensures.value c.in_ok-words.ensures) c.in_err-row.ensures c.loop-place.invariant.read)

pub loop-place-preserved : goal.loop-place-preserved
loop-place-preserved c = record {
  read =
      rw c.in_ok-push.ensures.items (goes_on own_row (row_of (table_of c.args.names.now)) c.loop-place.rows.items c.args.count c.loop-place.place
      c.loop-place.last c.args.line c.loop-place.rest.now (map (λ w. w.now) c.as_slice.result.now, c.in_ok-words.after.now) c.in_ok-row.row
      (names_at (table_of c.args.names.now) c.args.count None c.args.line c.args.bytes.now) c.loop-place-test.true
      (words_are c.as_slice.result.now c.in_ok-words.words.items c.in_ok-words.after.now _ c.as_slice.ensures.value c.in_ok-words.ensures) c.in_ok-row.ensures c.loop-place.invariant.read);
  lines = omega (
    arith,
    c.loop-place.invariant.lines,
    words_shorter (c.args.line + c.loop-place.place) c.loop-place.rest.now
        (map (λ w. w.now) c.in_ok-words.words.items, c.in_ok-words.after.now) c.in_ok-words.ensures,
  );
}

pub returns-clause-exact : goal.returns-clause-exact
returns-clause-exact c = is_done own_row (row_of (table_of c.args.names.now)) c.loop-place.rows.items c.args.count c.loop-place.place c.loop-place.last
    c.args.line c.loop-place.rest.now (names_at (table_of c.args.names.now) c.args.count None c.args.line c.args.bytes.now) c.loop-place-test.false c.loop-place.invariant.read
