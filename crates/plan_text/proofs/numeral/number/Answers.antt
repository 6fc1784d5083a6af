use Rattle.std.proofs.Common.{sym}
use Rattle.plan_text.proofs.Spellings.{none_unless, numeral_is_utf8, some_parsed, none_large, none_huge}
use Rattle.plan_text.proofs.numeral.number.Goals as goal

pub returns-then-not-is_numeral : goal.returns-then-not-is_numeral
returns-then-not-is_numeral c = none_unless c.args.word.now (sym c.if-not-is_numeral.ensures)

pub returns-in_default : goal.returns-in_default
returns-in_default c = absurd (c.in_default.ensures.cases.0 (numeral_is_utf8 c.args.word.now (sym c.if-not-is_numeral.ensures)))

pub returns-in-Ok-parse : goal.returns-in-Ok-parse
returns-in-Ok-parse c =
    some_parsed c.args.word.now c.in-Ok.text.now c.in-Ok-parse.number (sym c.if-not-is_numeral.ensures) c.in-Ok.ensures.cases.0 c.in-Ok-parse.ensures.value.0 c.if-number-lt-LIMIT.true

pub returns-in_default-parse : goal.returns-in_default-parse
returns-in_default-parse c =
    none_large c.args.word.now c.in-Ok.text.now c.in-Ok-parse.number (sym c.if-not-is_numeral.ensures) c.in-Ok.ensures.cases.0 c.in-Ok-parse.ensures.value.0 c.if-number-lt-LIMIT.false

pub returns-in_default-parse-2 : goal.returns-in_default-parse-2
returns-in_default-parse-2 c =
    none_huge c.args.word.now c.in-Ok.text.now (sym c.if-not-is_numeral.ensures) c.in-Ok.ensures.cases.0 c.in_default-parse.ensures.value.0
