use Rattle.std.proofs.Common.{arith, sym, refl}
use Rattle.plan_text.proofs.Forms.{form_over, form_wide, form_long}
use Rattle.plan_text.proofs.form.form_of.Goals as goal

pub returns-in_default : goal.returns-in_default
returns-in_default c = sym (form_wide c.args.weights.now c.in_default.ensures)

pub returns-then-all_fit : goal.returns-then-all_fit
returns-then-all_fit c =
    sym (form_over c.in-Some.denominator c.args.weights.now (record { denominator = c.in-Some.ensures.1; small = omega (arith, c.in-Some.ensures); wholes = c.if-all_fit.ensures.0 refl }))

pub returns-else-all_fit : goal.returns-else-all_fit
returns-else-all_fit c = sym (form_long c.in-Some.denominator c.args.weights.now c.in-Some.ensures.1 (λ all. let e = c.if-all_fit.ensures.1 all in cc))
