-- More lemmas beside those of `Views` in `specs/laws`.
use Rattle.std.proofs.Common.{◌≡◌, ℤ, pos, ◌<ℤ◌, ◌∙◌, ap, arith, unsigned_abs}
use Rattle.std.proofs.lemmas.Int.{ints}
use Rattle.rational_theory.specs.Rational.{over}
use Rattle.rational_theory.proofs.Lowest.{over-lowest}
use Rattle.narrow_fraction.specs.Fraction.{IsLowest}
use Rattle.narrow_fraction.specs.declared.frac.Frac.TheInside.{Inside}

pub pos-abs : (z : ℤ) → pos 0 <ℤ z → pos (unsigned_abs z) ≡ z
pos-abs z h = omega (arith, ints)

pub fields_back : (f : Inside) → IsLowest f.num f.den → ◌≡◌ {A = Inside} (record { num = (over f.num (unsigned_abs f.den)).num; den = pos (over f.num (unsigned_abs f.den)).den }) f
fields_back f h =
    let p = over-lowest f.num (unsigned_abs f.den) (omega (arith, ints, h.positive)) h.reduced in
    λ i. record { num = p.0 i; den = (ap pos p.1 ∙ pos-abs f.den h.positive) i }
