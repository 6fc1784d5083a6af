use Rattle.std.proofs.Common.{◌+ℤ◌, ◌∙◌, sym, ap, to_z}
use Rattle.std.specs.Int.{w128}
use Rattle.std.proofs.lemmas.Int.{to_z-of_z}
use Rattle.rational_theory.specs.Rational.{over}
use Rattle.narrow_fraction.proofs.Parts.{zero_over}
use Rattle.narrow_fraction.proofs.OneDenominator.{same_fits, fits_same, same_sum, fits_i128}
use Rattle.narrow_fraction.proofs.sums.sum_over_same.Goals as goal

pub returns-in_default : goal.returns-in_default
returns-in_default c = λ f.
    let n = fits_i128 c.args.x.num (rw c.num.ensures.value at c.num.ensures.size) in
    let m = fits_i128 c.args.y.num (rw c.num-2.ensures.value at c.num-2.ensures.size) in
    let k = simp (c.num.ensures.value, c.num-2.ensures.value, to_z-of_z) at (rw c.in_default.is at c.fitting_sum.ensures) in
    k (same_fits c.args.x c.args.y c.requires f)

pub returns : goal.returns
returns c =
    let a = rw c.num.ensures.value at c.num.ensures.size in
    let b = rw c.num-2.ensures.value at c.num-2.ensures.size in
    let n = fits_i128 c.args.x.num a in
    let m = fits_i128 c.args.y.num b in
    let k = simp (c.num.ensures.value, c.num-2.ensures.value, to_z-of_z) at (rw c.in-Some.is at c.fitting_sum.ensures) in
    let t = fits_i128 (c.args.x.num +ℤ c.args.y.num) k.0 in
    let d = rw c.bottom-bottom.ensures.value at c.bottom-bottom.ensures.size in
    (fits_same c.args.x c.args.y c.requires a b d k.0, (simp (k.1, c.bottom-bottom.ensures.value, to_z-of_z) at c.reduced.ensures.value) ∙ same_sum c.args.x c.args.y c.requires)

pub returns-then-top-eq0 : goal.returns-then-top-eq0
returns-then-top-eq0 c =
    let a = rw c.num.ensures.value at c.num.ensures.size in
    let b = rw c.num-2.ensures.value at c.num-2.ensures.size in
    let n = fits_i128 c.args.x.num a in
    let m = fits_i128 c.args.y.num b in
    let k = simp (c.num.ensures.value, c.num-2.ensures.value, to_z-of_z) at (rw c.in-Some.is at c.fitting_sum.ensures) in
    let t = fits_i128 (c.args.x.num +ℤ c.args.y.num) k.0 in
    let z = simp (k.1, to_z-of_z) at (ap (to_z w128) c.if-top-eq0.true) in
    let d = rw c.bottom-bottom.ensures.value at c.bottom-bottom.ensures.size in (
      fits_same c.args.x c.args.y c.requires a b d k.0,
      c.whole.ensures ∙ sym (zero_over c.args.x.den c.args.x.positive) ∙ ap (λ n. over n c.args.x.den) (sym z) ∙ same_sum c.args.x c.args.y c.requires,
    )
