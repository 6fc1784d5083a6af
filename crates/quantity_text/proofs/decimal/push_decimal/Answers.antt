use Rattle.std.proofs.Common.{◌≡◌, rules, unsigned_abs}
use Rattle.quantity_text.proofs.Decimals.{decimal_is}
use Rattle.quantity_text.proofs.decimal.push_decimal.Goals as goal

pub returns : goal.returns
returns c =
    let top : c.unsigned_abs-top.result ≡ unsigned_abs c.args.value.num = search rules in
    let bottom : c.unsigned_abs-bottom.result ≡ c.args.value.den = search rules in
    rw (decimal_is c.args.value c.args.places c.requires.least) (rw (top, bottom) at c.push_quotient.ensures)
