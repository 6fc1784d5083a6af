use Rattle.std.proofs.Common.{◌≡◌, refl, arith}
use Rattle.std.proofs.lemmas.Int.{to_z-of_z}
use Rattle.fraction_tableau.specs.Scales.{numerator}
use Rattle.narrow_fraction.proofs.Fitting.{fits_i64}
use Rattle.fraction_tableau.proofs.Scales.{some_numerator}
use Rattle.fraction_tableau.proofs.scale.numerator_of.Goals as goal

pub returns : goal.returns
returns c =
    let n = numerator c.args.denominator c.args.number.now in
    let fit = fits_i64 n (omega (arith, c.requires.size)) in
    let e : c.unwrap.result ≡ n = some_numerator c.args.number.now c.args.denominator c.numerator_over.result c.unwrap.result c.requires.above c.numerator_over.ensures c.unwrap.ensures in
    simp (e, fit, to_z-of_z) refl
