use Rattle.std.proofs.Common.{◌≡◌, pos, ◌*ℤ◌, sym, ◌∙◌, ap, arith}
use Rattle.std.specs.Int.{w64}
use Rattle.std.proofs.lemmas.Int.{to_z-of_z, to_z_pos}
use Rattle.rational_theory.specs.Rational.{over}
use Rattle.fraction_tableau.specs.Scales.{numerator}
use Rattle.narrow_fraction.proofs.Fitting.{fits_i64}
use Rattle.fraction_tableau.proofs.Scales.{over_part, rescaled_times, rescaled_size, rescaled_word}
use Rattle.fraction_tableau.proofs.scale.Rescaling.rescaled.Goals as goal

pub overflow_mul-numerator_of : goal.overflow_mul-numerator_of
overflow_mul-numerator_of c =
    let r = c.args.self in
    let i = c.requires c.if-self-eq1.false in
    let n = numerator r.from c.args.number.now in
    let z = to_z_pos w64 r.times (omega (arith, rescaled_times r c.args.number.now i)) in
    let f = fits_i64 n (omega (arith, rescaled_size r c.args.number.now i)) in
    simp (c.numerator_of.ensures, z, f, to_z-of_z) (rescaled_word r c.args.number.now i)

pub returns : goal.returns
returns c =
    let r = c.args.self in
    let i = c.requires c.if-self-eq1.false in
    let n = numerator r.from c.args.number.now in
    let z = to_z_pos w64 r.times (omega (arith, rescaled_times r c.args.number.now i)) in
    let f = fits_i64 n (omega (arith, rescaled_size r c.args.number.now i)) in
    let g = rescaled_word r c.args.number.now i in
    let v : c.of_words.result ≡ over (n *ℤ pos r.times) r.to = simp (c.numerator_of.ensures, z, f, g, to_z-of_z) at c.of_words.ensures in
    v ∙ ap (over (n *ℤ pos r.times)) i.to ∙ sym (over_part n r.from r.times i.above i.times) ∙ i.same
