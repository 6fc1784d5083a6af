use Rattle.std.proofs.Common.{◌+ℤ◌, ◌*ℤ◌, pos, ◌∙◌}
use Rattle.std.proofs.lemmas.Int.{to_z-of_z}
use Rattle.narrow_fraction.proofs.OneDenominator.{whole_fits, fits_whole, whole_reduced, whole_sum, fits_i128}
use Rattle.narrow_fraction.proofs.sums.sum_with_whole.Goals as goal

pub returns-in_default : goal.returns-in_default
returns-in_default c = λ f.
    let m = fits_i128 c.args.y.num (rw c.num.ensures.value at c.num.ensures.size) in
    let k = simp (c.num.ensures.value, c.bottom-bottom.ensures.value, to_z-of_z) at (rw c.in_default.is at c.times_size.ensures) in
    k (whole_fits c.args.x c.args.y c.requires f).0

pub returns-in_default-fitting_sum : goal.returns-in_default-fitting_sum
returns-in_default-fitting_sum c = λ f.
    let n = fits_i128 c.args.x.num (rw c.num-2.ensures.value at c.num-2.ensures.size) in
    let m = fits_i128 c.args.y.num (rw c.num.ensures.value at c.num.ensures.size) in
    let j = simp (c.num.ensures.value, c.bottom-bottom.ensures.value, to_z-of_z) at (rw c.in-Some.is at c.times_size.ensures) in
    let s = fits_i128 (c.args.y.num *ℤ pos c.args.x.den) j.0 in
    let k = simp (c.num-2.ensures.value, j.1, to_z-of_z) at (rw c.in_default-fitting_sum.is at c.fitting_sum.ensures) in
    k (whole_fits c.args.x c.args.y c.requires f).1

pub already_reduced-requires-clause-reduced : goal.already_reduced-requires-clause-reduced
already_reduced-requires-clause-reduced c =
    let n = fits_i128 c.args.x.num (rw c.num-2.ensures.value at c.num-2.ensures.size) in
    let m = fits_i128 c.args.y.num (rw c.num.ensures.value at c.num.ensures.size) in
    let j = simp (c.num.ensures.value, c.bottom-bottom.ensures.value, to_z-of_z) at (rw c.in-Some.is at c.times_size.ensures) in
    let s = fits_i128 (c.args.y.num *ℤ pos c.args.x.den) j.0 in
    let k = simp (c.num-2.ensures.value, j.1, to_z-of_z) at (rw c.in-Some-fitting_sum.is at c.fitting_sum.ensures) in
    let t = fits_i128 (c.args.x.num +ℤ c.args.y.num *ℤ pos c.args.x.den) k.0 in
    simp (k.1, c.bottom-bottom.ensures.value, to_z-of_z) (whole_reduced c.args.x c.args.y c.requires)

pub returns : goal.returns
returns c =
    let a = rw c.num-2.ensures.value at c.num-2.ensures.size in
    let n = fits_i128 c.args.x.num a in
    let m = fits_i128 c.args.y.num (rw c.num.ensures.value at c.num.ensures.size) in
    let j = simp (c.num.ensures.value, c.bottom-bottom.ensures.value, to_z-of_z) at (rw c.in-Some.is at c.times_size.ensures) in
    let s = fits_i128 (c.args.y.num *ℤ pos c.args.x.den) j.0 in
    let k = simp (c.num-2.ensures.value, j.1, to_z-of_z) at (rw c.in-Some-fitting_sum.is at c.fitting_sum.ensures) in
    let t = fits_i128 (c.args.x.num +ℤ c.args.y.num *ℤ pos c.args.x.den) k.0 in
    let d = rw c.bottom-bottom.ensures.value at c.bottom-bottom.ensures.size in
    (fits_whole c.args.x c.args.y c.requires a d j.0 k.0, (simp (k.1, c.bottom-bottom.ensures.value, to_z-of_z) at c.already_reduced.ensures) ∙ whole_sum c.args.x c.args.y c.requires)
