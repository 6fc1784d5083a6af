use Rattle.std.proofs.Common.{◌≡◌, pos, cond, ◌∙◌, arith}
use Rattle.std.proofs.lemmas.Int.{to_z-of_z}
use Rattle.rational_theory.specs.Rational.{over}
use Rattle.fraction_tableau.specs.Scales.{numerator}
use Rattle.narrow_fraction.proofs.Fitting.{fits_i64}
use Rattle.fraction_tableau.proofs.Scales.{joined_number, joined_size, combined}
use Rattle.fraction_tableau.proofs.joining.joined.Goals as goal

pub returns : goal.returns
returns c =
    let j = c.args.joining.now in
    let i = c.requires.joining in
    let a = c.args.own in
    let x = numerator j.divided.denominator c.args.divided.now in
    let n = combined j.rescaling.times j.part (cond c.args.is_own (pos 0) a) x in
    let fx = fits_i64 x (omega (arith, c.requires.divided.size, c.requires.divided_short)) in
    let s = joined_size j c.args.is_own a x i c.requires.own c.requires.divided.size in
    let fn = fits_i64 n (omega (arith, s, i.short)) in
    let v : c.joined_numerator-numerator.result ≡ n = simp (c.numerator_of.ensures, c.ranges.own, fx, to_z-of_z) at c.joined_numerator-numerator.ensures.value in
    let e : c.of_words.result ≡ over n j.rescaling.to = simp (v, fn, to_z-of_z) at c.of_words.ensures in
    e ∙ joined_number j c.args.is_own a c.args.divided.now i c.requires.divided
