use Rattle.std.proofs.Common.{◌≡◌, Ok, sym, ◌∙◌, ap, subst}
use Rattle.rational_theory.specs.Rational.{◌+ℚ◌, ◌*ℚ◌}
use Rattle.narrow_fraction.specs.Fraction.{FitsFrac}
use Rattle.narrow_fraction.specs.Attempt.{attempt}
use Rattle.named_row.proofs.Zeros.{zero_passes, zero_stays}
use Rattle.named_row.proofs.Operations.{product_refused, sum_refused, both_fit}
use Rattle.named_row.proofs.cells.add_number.Goals as goal

pub returns-then-is_zero : goal.returns-then-is_zero
returns-then-is_zero c =
    let z = c.is_zero.ensures.0 c.if-is_zero.true in
    let v = c.args.number +ℚ c.args.by *ℚ c.args.other in
    ap Ok (c.fitting.ensures.same ∙ zero_stays c.args.by c.args.number c.args.other z)
    ∙ sym (ap (λ o. attempt o v) (zero_passes c.args.place c.args.by c.args.number c.args.other (subst FitsFrac c.fitting.ensures.same c.fitting.ensures.fits) z))

pub returns-in-Err : goal.returns-in-Err
returns-in-Err c = sym (ap (λ o. attempt o (c.args.number +ℚ c.args.by *ℚ c.args.other)) (product_refused c.args.place c.args.by c.args.number c.args.other _ c.in-Err.ensures.wide))

pub returns-in-Ok-plus : goal.returns-in-Ok-plus
returns-in-Ok-plus c =
    let v = c.args.number +ℚ c.args.by *ℚ c.args.other in
    let e : c.in-Ok-plus.sum ≡ v = c.in-Ok-plus.ensures.value.1 ∙ ap (λ q. c.args.number +ℚ q) c.in-Ok.ensures.value.1 in
    ap Ok e ∙ sym (ap (λ o. attempt o v) (both_fit c.args.place c.args.by c.args.number c.args.other c.in-Ok.product c.in-Ok.ensures.value c.in-Ok-plus.ensures.value.0))

pub returns-in-Err-plus : goal.returns-in-Err-plus
returns-in-Err-plus c = sym (ap (λ o. attempt o (c.args.number +ℚ c.args.by *ℚ c.args.other)) (sum_refused c.args.place c.args.by c.args.number c.args.other
    c.in-Ok.product _ c.in-Ok.ensures.value c.in-Err-plus.ensures.wide))
