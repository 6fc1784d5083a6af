use Rattle.std.proofs.Common.{unsigned_abs}
use Rattle.std.proofs.lemmas.Int.{to_z-of_z}
use Rattle.rational_theory.proofs.Compare.{cmp_ℚ-is}
use Rattle.narrow_fraction.specs.TwoWords.{number_of}
use Rattle.narrow_fraction.proofs.OneDenominator.{fits_i128}
use Rattle.narrow_fraction.proofs.Steps.{rank_over}
use Rattle.narrow_fraction.proofs.quotient.Quotient.order.Goals as goal

pub returns : goal.returns
returns c =
    let a = number_of c.self.inside.num in
    let b = number_of c.other.inside.num in
    let f = number_of c.self.inside.den in
    let g = number_of c.other.inside.den in
    let n = fits_i128 a c.self.invariant.num_fits in
    let m = fits_i128 b c.other.invariant.num_fits in
    let d = fits_i128 f c.self.invariant.den_fits in
    let e = fits_i128 g c.other.invariant.den_fits in
    let u = simp to_z-of_z at (rw c.number-2.ensures at c.unsigned_abs.ensures.value) in
    let v = simp to_z-of_z at (rw c.number-4.ensures at c.unsigned_abs-2.ensures.value) in
    let o = simp to_z-of_z at (rw (c.number.ensures, c.number-3.ensures, u, v) at c.compare_quotients.ensures) in
    let k = rw (c.self.view_is, c.other.view_is) at (rank_over _ a b (unsigned_abs f) (unsigned_abs g) c.self.invariant.above c.other.invariant.above o) in
    record { value = cmp_ℚ-is _ _ _ k; says = k }
