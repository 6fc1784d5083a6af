-- The fields of a `Frac` come back from its value.
use Rattle.std.proofs.Common.{◌≡◌, ℤ, pos, ◌<◌, ◌^◌, sym, ◌∙◌, ap, arith, unsigned_abs}
use Rattle.std.proofs.lemmas.Int.{ints}
use Rattle.rational_theory.specs.Rational.{ℚ, over}
use Rattle.rational_theory.proofs.Lowest.{over-own}
use Rattle.narrow_fraction.specs.Fraction.{IsLowest}
use Rattle.narrow_fraction.specs.declared.frac.Frac.TheInside.{Inside}
use Rattle.narrow_fraction.specs.laws.Views.{fields_back}

-- the fields, from the value
pub fields_are : (f : Inside) (x : ℚ) → over f.num (unsigned_abs f.den) ≡ x → IsLowest f.num f.den → (f.num ≡ x.num) × (f.den ≡ pos x.den)
fields_are f x e h =
    let p = fields_back f h in
    (ap (λ (a : Inside). a.num) (sym p) ∙ ap (λ (t : ℚ). t.num) e, ap (λ (a : Inside). a.den) (sym p) ∙ ap (λ (t : ℚ). pos t.den) e)

-- the value of fields that are a value's own
pub view_own : (num den : ℤ) (x : ℚ) → num ≡ x.num → den ≡ pos x.den → over num (unsigned_abs den) ≡ x
view_own num den x e f = rw (e, f) (over-own x)

pub lowest_own : (num den : ℤ) (x : ℚ) → num ≡ x.num → den ≡ pos x.den → unsigned_abs x.num < 2 ^ 127 → IsLowest num den
lowest_own num den x e f h = rw (e, f) (record { positive = omega (arith, ints, x.positive); reduced = x.reduced; num_fits = h })
