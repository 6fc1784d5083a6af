use Rattle.std.proofs.Common.{◌+ℤ◌, ◌*ℤ◌, ◌/◌, pos, mul-pos, ◌∙◌}
use Rattle.std.proofs.lemmas.Int.{to_z-of_z}
use Rattle.rational_theory.specs.Gcd.{gcd}
use Rattle.rational_theory.specs.laws.Fractions.{part_pos}
use Rattle.narrow_fraction.proofs.OneDenominator.{sum-over, top_gcd, fits_i128}
use Rattle.narrow_fraction.proofs.sums.sum_over_common.Goals as goal

pub reduced_by-requires-clause-above : goal.reduced_by-requires-clause-above
reduced_by-requires-clause-above c =
    let k = rw (c.divided-right_part.ensures, c.common_divisor-shared.ensures.value, c.bottom-b.ensures.value, c.bottom-d.ensures.value) at
    (rw c.in-Some-fitting_product.is at c.fitting_product.ensures) in
    rw k.1 (mul-pos c.args.x.positive (part_pos c.args.x.den c.args.y.den c.args.y.positive))

pub reduced_by-requires-clause-divisor : goal.reduced_by-requires-clause-divisor
reduced_by-requires-clause-divisor c =
    let n = fits_i128 c.args.x.num (rw c.num.ensures.value at c.num.ensures.size) in
    let m = fits_i128 c.args.y.num (rw c.num-2.ensures.value at c.num-2.ensures.size) in
    let g = gcd c.args.x.den c.args.y.den in
    let i = simp (c.num.ensures.value, c.divided-right_part.ensures, c.common_divisor-shared.ensures.value, c.bottom-b.ensures.value, c.bottom-d.ensures.value, to_z-of_z)
    at (rw c.in-Some.is at c.times_size.ensures) in
    let j = simp (c.num-2.ensures.value, c.divided.ensures, c.common_divisor-shared.ensures.value, c.bottom-b.ensures.value, c.bottom-d.ensures.value, to_z-of_z)
    at (rw c.in-Some-times_size.is at c.times_size-2.ensures) in
    let p = fits_i128 (c.args.x.num *ℤ pos (c.args.y.den / g)) i.0 in
    let q = fits_i128 (c.args.y.num *ℤ pos (c.args.x.den / g)) j.0 in
    let k = simp (i.1, j.1, to_z-of_z) at (rw c.in-Some-fitting_sum.is at c.fitting_sum.ensures) in
    let t = fits_i128 (c.args.x.num *ℤ pos (c.args.y.den / g) +ℤ c.args.y.num *ℤ pos (c.args.x.den / g)) k.0 in
    let b = rw (c.divided-right_part.ensures, c.common_divisor-shared.ensures.value, c.bottom-b.ensures.value, c.bottom-d.ensures.value) at
    (rw c.in-Some-fitting_product.is at c.fitting_product.ensures) in
    simp (
      c.common_divisor-divisor.ensures.value,
      c.unsigned_abs.ensures.value,
      c.common_divisor-shared.ensures.value,
      c.bottom-b.ensures.value,
      c.bottom-d.ensures.value,
      k.1,
      b.1,
      to_z-of_z,
    ) (top_gcd c.args.x c.args.y)

pub returns : goal.returns
returns c =
    let n = fits_i128 c.args.x.num (rw c.num.ensures.value at c.num.ensures.size) in
    let m = fits_i128 c.args.y.num (rw c.num-2.ensures.value at c.num-2.ensures.size) in
    let g = gcd c.args.x.den c.args.y.den in
    let i = simp (c.num.ensures.value, c.divided-right_part.ensures, c.common_divisor-shared.ensures.value, c.bottom-b.ensures.value, c.bottom-d.ensures.value, to_z-of_z)
    at (rw c.in-Some.is at c.times_size.ensures) in
    let j = simp (c.num-2.ensures.value, c.divided.ensures, c.common_divisor-shared.ensures.value, c.bottom-b.ensures.value, c.bottom-d.ensures.value, to_z-of_z)
    at (rw c.in-Some-times_size.is at c.times_size-2.ensures) in
    let p = fits_i128 (c.args.x.num *ℤ pos (c.args.y.den / g)) i.0 in
    let q = fits_i128 (c.args.y.num *ℤ pos (c.args.x.den / g)) j.0 in
    let k = simp (i.1, j.1, to_z-of_z) at (rw c.in-Some-fitting_sum.is at c.fitting_sum.ensures) in
    let t = fits_i128 (c.args.x.num *ℤ pos (c.args.y.den / g) +ℤ c.args.y.num *ℤ pos (c.args.x.den / g)) k.0 in
    let b = rw (c.divided-right_part.ensures, c.common_divisor-shared.ensures.value, c.bottom-b.ensures.value, c.bottom-d.ensures.value) at
    (rw c.in-Some-fitting_product.is at c.fitting_product.ensures) in
    (record { left = i.0; right = j.0; top = k.0; bottom = b.0 }, (simp (k.1, b.1, to_z-of_z) at c.reduced_by.ensures) ∙ sum-over c.args.x c.args.y)

pub returns-in_default : goal.returns-in_default
returns-in_default c = λ f.
    let n = fits_i128 c.args.x.num (rw c.num.ensures.value at c.num.ensures.size) in
    let i = simp (c.num.ensures.value, c.divided-right_part.ensures, c.common_divisor-shared.ensures.value, c.bottom-b.ensures.value, c.bottom-d.ensures.value, to_z-of_z)
    at (rw c.in_default.is at c.times_size.ensures) in
    i f.left

pub returns-in_default-times_size : goal.returns-in_default-times_size
returns-in_default-times_size c = λ f.
    let m = fits_i128 c.args.y.num (rw c.num-2.ensures.value at c.num-2.ensures.size) in
    let j = simp (c.num-2.ensures.value, c.divided.ensures, c.common_divisor-shared.ensures.value, c.bottom-b.ensures.value, c.bottom-d.ensures.value, to_z-of_z)
    at (rw c.in_default-times_size.is at c.times_size-2.ensures) in
    j f.right

pub returns-in_default-fitting_sum : goal.returns-in_default-fitting_sum
returns-in_default-fitting_sum c = λ f.
    let n = fits_i128 c.args.x.num (rw c.num.ensures.value at c.num.ensures.size) in
    let m = fits_i128 c.args.y.num (rw c.num-2.ensures.value at c.num-2.ensures.size) in
    let g = gcd c.args.x.den c.args.y.den in
    let p = fits_i128 (c.args.x.num *ℤ pos (c.args.y.den / g)) f.left in
    let q = fits_i128 (c.args.y.num *ℤ pos (c.args.x.den / g)) f.right in
    let i = simp (c.num.ensures.value, c.divided-right_part.ensures, c.common_divisor-shared.ensures.value, c.bottom-b.ensures.value, c.bottom-d.ensures.value, to_z-of_z)
    at (rw c.in-Some.is at c.times_size.ensures) in
    let j = simp (c.num-2.ensures.value, c.divided.ensures, c.common_divisor-shared.ensures.value, c.bottom-b.ensures.value, c.bottom-d.ensures.value, to_z-of_z)
    at (rw c.in-Some-times_size.is at c.times_size-2.ensures) in
    (simp (i.1, j.1, to_z-of_z) at (rw c.in_default-fitting_sum.is at c.fitting_sum.ensures)) f.top

pub returns-in_default-fitting_product : goal.returns-in_default-fitting_product
returns-in_default-fitting_product c = λ f.
    (rw (c.divided-right_part.ensures, c.common_divisor-shared.ensures.value, c.bottom-b.ensures.value, c.bottom-d.ensures.value) at
    (rw c.in_default-fitting_product.is at c.fitting_product.ensures)) f.bottom
