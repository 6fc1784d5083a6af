use Rattle.std.proofs.Common.{map, arith}
use Rattle.plan_text.proofs.WordLines.{words_shorter}
use Rattle.plan_text.proofs.row_list.rows_at.Goals as goal

pub overflow_add-line : goal.overflow_add-line
overflow_add-line c = omega (arith, c.requires.lines, words_shorter c.args.line c.args.bytes.now (map (λ w. w.now) c.in_ok-words.words.items, c.in_ok-words.rest.now) c.in_ok-words.ensures)

pub names_at-requires-clause-lines : goal.names_at-requires-clause-lines
names_at-requires-clause-lines c = omega (
  arith,
  c.requires.lines,
  words_shorter c.args.line c.args.bytes.now (
    map (λ w. w.now) c.in_ok-words.words.items,
    c.in_ok-words.rest.now,
  ) c.in_ok-words.ensures,
)

pub overflow_add-result : goal.overflow_add-result
overflow_add-result c = omega (arith, c.requires.lines, words_shorter c.args.line c.args.bytes.now (map (λ w. w.now) c.in_ok-words.words.items, c.in_ok-words.rest.now) c.in_ok-words.ensures)

pub overflow_add-result-2 : goal.overflow_add-result-2
overflow_add-result-2 c = omega (
  arith,
  c.requires.lines,
  c.in_ok-rows.ensures.lines,
  words_shorter c.args.line c.args.bytes.now
      (map (λ w. w.now) c.in_ok-words.words.items, c.in_ok-words.rest.now) c.in_ok-words.ensures,
)

pub returns-clause-lines : goal.returns-clause-lines
returns-clause-lines c = omega (
  arith,
  c.in_ok-rows.ensures.lines,
  words_shorter c.args.line c.args.bytes.now (
    map (λ w. w.now) c.in_ok-words.words.items,
    c.in_ok-words.rest.now,
  ) c.in_ok-words.ensures,
)
