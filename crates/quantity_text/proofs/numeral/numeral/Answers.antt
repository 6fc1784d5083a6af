use Rattle.std.proofs.Common.{arith, refl}
use Rattle.std.proofs.lemmas.Bool.{false≢true}
use Rattle.quantity_text.proofs.Numerals.{is_numeral, numeral_value, numeral_is}
use Rattle.quantity_text.proofs.numeral.numeral.Goals as goal

pub returns-then-not-leads-clause-none : goal.returns-then-not-leads-clause-none
returns-then-not-leads-clause-none c n h e = false≢true (c.if-not-leads.ensures.1 (is_numeral c.args.digits.now n h e))

pub returns-in-Some-clause-spelled : goal.returns-in-Some-clause-spelled
returns-in-Some-clause-spelled c =
    numeral_is c.args.digits.now c.in-Some.number (c.if-not-leads.ensures.0 refl) c.in-Some.ensures.0.0 c.in-Some.ensures.1 (omega (arith, c.if-number-le-MOST.true))

pub returns-in_default-clause-none : goal.returns-in_default-clause-none
returns-in_default-clause-none c n h e =
    let v = numeral_value c.args.digits.now n h e in
    omega (arith, c.in-Some.ensures.1, v.1, h, c.if-number-le-MOST.false)

pub returns-in_default-2-clause-none : goal.returns-in_default-2-clause-none
returns-in_default-2-clause-none c n h e =
    let v = numeral_value c.args.digits.now n h e in
    c.in_default.ensures (v.0, omega (arith, v.1, h))
