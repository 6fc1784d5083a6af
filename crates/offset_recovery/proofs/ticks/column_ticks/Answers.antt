use Rattle.std.proofs.Common.{◌∙◌, ap, arith, unsigned_abs}
use Rattle.rational_theory.specs.Rational.{ℚ}
use Rattle.offset_recovery.proofs.TicksOf.{ticks_are}
use Rattle.offset_recovery.proofs.ticks.column_ticks.Goals as goal

pub returns : goal.returns
returns c =
    ticks_are c.args.artery.now c.args.point.now.values.items c.args.column c.top.result c.bottom.result c.args.unit c.requires.ready c.requires.column
    (c.top.ensures ∙ ap (λ (y : ℚ). unsigned_abs y.num) c.in_parts-product.ensures) (c.bottom.ensures.value ∙ ap (λ (y : ℚ). y.den) c.in_parts-product.ensures) c.requires.unit

pub overflow_mul-result : goal.overflow_mul-result
overflow_mul-result c =
    let e = ticks_are c.args.artery.now c.args.point.now.values.items c.args.column c.top.result c.bottom.result c.args.unit c.requires.ready c.requires.column
    (c.top.ensures ∙ ap (λ (y : ℚ). unsigned_abs y.num) c.in_parts-product.ensures) (c.bottom.ensures.value ∙ ap (λ (y : ℚ). y.den) c.in_parts-product.ensures) c.requires.unit in
    omega (arith, e, c.requires.fits)
