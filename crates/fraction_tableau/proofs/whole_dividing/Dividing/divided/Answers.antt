use Rattle.std.proofs.Common.{◌≡◌, pos, neg_ℤ, cond, ◌∙◌, arith, unsigned_abs}
use Rattle.std.specs.Prelude.{int_lt}
use Rattle.std.proofs.lemmas.Int.{to_z-of_z}
use Rattle.rational_theory.specs.Rational.{over}
use Rattle.fraction_tableau.specs.Scales.{numerator}
use Rattle.narrow_fraction.proofs.Fitting.{fits_i64}
use Rattle.fraction_tableau.proofs.Divisions.{divided_is, own_size, divided_size}
use Rattle.fraction_tableau.proofs.whole_dividing.Dividing.divided.Goals as goal

pub returns : goal.returns
returns c =
    let t = c.args.self.now in
    let i = c.requires.dividing in
    let o = c.requires.over in
    let n = numerator t.row.denominator c.args.number.now in
    let m = cond c.args.is_own (pos t.row.denominator) n in
    let r = cond (int_lt t.pivot (pos 0)) (neg_ℤ m) m in
    let fp = fits_i64 t.pivot (omega (arith, i.size, i.short)) in
    let fn = fits_i64 n (omega (arith, o.size, i.short)) in
    let fm = fits_i64 m (omega (arith, own_size t c.args.is_own n i o.size, i.short)) in
    let fr = fits_i64 r (omega (arith, divided_size t c.args.is_own c.args.number.now i o, i.short)) in
    let a : c.divided_numerator-numerator.result ≡ m = simp (c.numerator_of.ensures, fn, to_z-of_z) at c.divided_numerator-numerator.ensures in
    let b : c.with_sign.result ≡ r = simp (a, fp, fm, to_z-of_z) at c.with_sign.ensures in
    let u : c.unsigned_abs.result ≡ unsigned_abs t.pivot = simp (fp, to_z-of_z) at c.unsigned_abs.ensures.value in
    let e : c.of_words.result ≡ over r (unsigned_abs t.pivot) = simp (b, u, fr, to_z-of_z) at c.of_words.ensures in
    e ∙ divided_is t c.args.is_own c.args.number.now i o
