use Rattle.std.proofs.Common.{◌↔◌, pos, subst, IsTrue, unsigned_abs}
use Rattle.std.specs.Prelude.{int_lt}
use Rattle.std.proofs.lemmas.Int.{to_z-of_z}
use Rattle.rational_theory.specs.Rational.{ℚ, whole, ◌<ℚ◌}
use Rattle.narrow_fraction.specs.TwoWords.{number_of}
use Rattle.narrow_fraction.proofs.OneDenominator.{fits_i128}
use Rattle.narrow_fraction.proofs.Quotients.{negative_test}
use Rattle.narrow_fraction.proofs.quotient.Quotient.is_negative.Goals as goal

pub returns : goal.returns
returns c =
    let n = number_of c.self.inside.num in
    let p = fits_i128 n c.self.invariant.num_fits in
    rw c.number.ensures (simp to_z-of_z (subst (λ (x : ℚ). IsTrue (int_lt n (pos 0)) ↔ (x <ℚ whole (pos 0))) c.self.view_is
    (negative_test n (unsigned_abs (number_of c.self.inside.den)) c.self.invariant.above)))
