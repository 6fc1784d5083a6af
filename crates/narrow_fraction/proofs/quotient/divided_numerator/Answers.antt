use Rattle.std.proofs.Common.{◌≡◌, pos, sym, ◌∙◌, ap, subst, arith, to_z, of_z, SFits, ◌*◌, ◌/◌, ◌%◌}
use Rattle.std.specs.Int.{w64}
use Rattle.std.proofs.lemmas.Int.{ints, to_z-of_z}
use Rattle.std.proofs.lemmas.Nat.Gcd.{dvd_of_mod-eq-zero}
use native.Mathlib.Nat.{mul-div_cancel'}
use Rattle.rational_theory.specs.Rational.{over}
use Rattle.narrow_fraction.proofs.Quotients.{over_scaled}
use Rattle.narrow_fraction.proofs.quotient.divided_numerator.Goals as goal

pub returns-in-Some-checked_mul : goal.returns-in-Some-checked_mul
returns-in-Some-checked_mul c =
    let d = c.args.denominator in
    let b = c.args.below in
    let m : b % d ≡ 0 = grind (arith, c.if-below-denominator-ne0.false) in
    let e : d * (b / d) ≡ b = mul-div_cancel' d (dvd_of_mod-eq-zero d m) in
    let j = rw c.in-Ok.is at c.try_from.ensures in
    let k = simp (j.1, to_z-of_z w64 (pos (b / d)) j.0) at (rw c.in-Some-checked_mul.is at c.checked_mul.ensures) in
    let f = subst (SFits w64) (sym k.1) k.0 in
    let g : to_z w64 (of_z w64 c.args.top) ≡ c.args.top = omega (arith, ints) in
    let p = sym (to_z-of_z w64 c.in-Some-checked_mul.product f) ∙ ap (to_z w64) c.if-product-top.true ∙ g in
    ap (λ x. over x b) (sym p ∙ k.1) ∙ over_scaled _ (b / d) d b c.requires.denominator c.requires.above e
