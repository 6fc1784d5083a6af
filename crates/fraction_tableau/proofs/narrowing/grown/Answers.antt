use Rattle.std.proofs.Common.{◌≡◌, ap, arith, unsigned_abs, SFits, negsuc}
use Rattle.std.specs.Int.{w64}
use Rattle.std.proofs.lemmas.Int.{ints, to_z-of_z}
use Rattle.fraction_tableau.proofs.Scales.{is_over, numerator_or}
use Rattle.fraction_tableau.proofs.narrowing.grown.Goals as goal

pub returns-clause-over : goal.returns-clause-over
returns-clause-over c =
    let n = c.unwrap_or-numerator.result in
    let fit : SFits w64 n = record { sfits = c.unwrap_or-numerator.type_inv } in
    let u : c.unsigned_abs-size.result ≡ unsigned_abs n = simp (fit, to_z-of_z) at c.unsigned_abs-size.ensures.value in
    let x = numerator_or c.args.number.now c.args.denominator c.numerator_over.result (negsuc 9223372036854775807) n c.numerator_over.ensures c.unwrap_or-numerator.ensures
    (λ e. let q = ap unsigned_abs e in absurd (omega (arith, ints, q, u, c.if-size-gt-MOST.false))) in
    is_over n c.args.denominator c.max.result c.args.number.now c.requires.above x (omega (arith, u, c.max.ensures))
