use Rattle.std.proofs.Common.{arith}
use Rattle.quantity_text.proofs.ExactTexts.{no_small_denominator, rest_all}
use Rattle.quantity_text.proofs.exact_read.denominator.Goals as goal

pub returns-in_default-numeral-clause-none : goal.returns-in_default-numeral-clause-none
returns-in_default-numeral-clause-none c d above fits e =
    no_small_denominator c.args.tail.now c.in-Some.bottom d (omega arith) (rw (rest_all 1 c.args.tail.now) at c.in-Some.ensures.spelled) (omega (arith, c.if-bottom-gt1.false)) above fits e
