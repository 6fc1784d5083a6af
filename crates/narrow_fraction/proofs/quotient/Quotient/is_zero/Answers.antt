use Rattle.std.proofs.Common.{◌≡◌, ◌↔◌, pos, subst, IsTrue, nat_eq, unsigned_abs}
use Rattle.std.proofs.lemmas.Int.{to_z-of_z}
use Rattle.rational_theory.specs.Rational.{ℚ, whole}
use Rattle.narrow_fraction.specs.TwoWords.{number_of}
use Rattle.narrow_fraction.proofs.OneDenominator.{fits_i128}
use Rattle.narrow_fraction.proofs.Quotients.{zero_test}
use Rattle.narrow_fraction.proofs.quotient.Quotient.is_zero.Goals as goal

pub returns : goal.returns
returns c =
    let n = number_of c.self.inside.num in
    let p = fits_i128 n c.self.invariant.num_fits in
    let u = simp to_z-of_z at (rw c.number.ensures at c.unsigned_abs.ensures.value) in
    rw u (subst (λ (x : ℚ). IsTrue (nat_eq (unsigned_abs n) 0) ↔ (x ≡ whole (pos 0))) c.self.view_is (zero_test n (unsigned_abs (number_of c.self.inside.den)) c.self.invariant.above))
