use Rattle.std.proofs.Common.{◌≡◌, pos, sym, ◌∙◌, subst, arith, SFits, ◌*ℤ◌, ◌/◌, ◌%◌, ◌<◌, ◌^◌, div-le_self}
use Rattle.std.specs.Int.{w64, w128}
use Rattle.std.proofs.lemmas.Int.{ints, to_z-of_z, to_z_pos}
use Rattle.narrow_fraction.proofs.OneDenominator.{fits_i128}
use Rattle.narrow_fraction.proofs.Quotients.{no_numerator, numerator_is, numerator}
use Rattle.narrow_fraction.proofs.quotient.numerator_of.Goals as goal

pub returns-then-remainder-ne0 : goal.returns-then-remainder-ne0
returns-then-remainder-ne0 c = λ n f e.
    let m = no_numerator c.args.fraction n c.args.denominator c.requires e in
    let r = c.remainder.ensures in
    let b = c.bottom-own.ensures.value in
    let q : c.remainder.result ≡ 0 = simp b at r ∙ m in
    grind (arith, q, c.if-remainder-ne0.true)

pub returns-in_default : goal.returns-in_default
returns-in_default c = λ n f e.
    let x = c.args.fraction in
    let d = c.args.denominator in
    let i = numerator_is x n d c.requires (no_numerator x n d c.requires e) e in
    let p = fits_i128 x.num (rw c.num.ensures.value at c.num.ensures.size) in
    let t : d / x.den < 2 ^ 127 = omega (arith, div-le_self d x.den, c.ranges.denominator.fits) in
    let k = simp (c.num.ensures.value, c.divided-times.ensures, c.bottom-own.ensures.value, to_z-of_z, to_z_pos) at (rw c.in_default.is at c.checked_mul.ensures) in
    let g : SFits w128 (x.num *ℤ pos (d / x.den)) = subst (SFits w128) i (omega (arith, ints, f)) in
    k g

pub returns-in-Ok : goal.returns-in-Ok
returns-in-Ok c =
    let x = c.args.fraction in
    let d = c.args.denominator in
    let p = fits_i128 x.num (rw c.num.ensures.value at c.num.ensures.size) in
    let t : d / x.den < 2 ^ 127 = omega (arith, div-le_self d x.den, c.ranges.denominator.fits) in
    let k = simp (c.num.ensures.value, c.divided-times.ensures, c.bottom-own.ensures.value, to_z-of_z, to_z_pos) at (rw c.in-Some.is at c.checked_mul.ensures) in
    let s = k.0 in
    let j = simp (k.1, to_z-of_z) at (rw c.in-Ok.is at c.try_from.ensures) in
    let w = j.0 in
    let z : c.remainder.result ≡ 0 = grind (arith, c.if-remainder-ne0.false) in
    let m : d % x.den ≡ 0 = sym (simp c.bottom-own.ensures.value at c.remainder.ensures) ∙ z in
    simp (j.1, to_z-of_z) (numerator x d c.requires m)

pub returns-in-Err : goal.returns-in-Err
returns-in-Err c = λ n f e.
    let x = c.args.fraction in
    let d = c.args.denominator in
    let i = numerator_is x n d c.requires (no_numerator x n d c.requires e) e in
    let p = fits_i128 x.num (rw c.num.ensures.value at c.num.ensures.size) in
    let t : d / x.den < 2 ^ 127 = omega (arith, div-le_self d x.den, c.ranges.denominator.fits) in
    let k = simp (c.num.ensures.value, c.divided-times.ensures, c.bottom-own.ensures.value, to_z-of_z, to_z_pos) at (rw c.in-Some.is at c.checked_mul.ensures) in
    let s = k.0 in
    let j = simp (k.1, to_z-of_z) at (rw c.in-Err.is at c.try_from.ensures) in
    j (subst (SFits w64) i f)
