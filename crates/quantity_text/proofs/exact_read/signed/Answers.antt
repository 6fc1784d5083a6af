use Rattle.std.proofs.Common.{arith}
use Rattle.quantity_text.proofs.Quotients.{minus_parts}
use Rattle.quantity_text.proofs.exact_read.signed.Goals as goal

pub returns-else-size-eq0-clause-some : goal.returns-else-size-eq0-clause-some
returns-else-size-eq0-clause-some c =
    rw (c.neg.ensures, c.if-not-negative.false) (minus_parts c.in-Some.value c.args.size.top c.args.size.bottom c.in-Some.ensures.num c.in-Some.ensures.den (omega (arith, c.if-size-eq0.false)))
