use Rattle.std.proofs.Common.{arith, mul-pos, ◌∙◌}
use Rattle.std.proofs.lemmas.Int.{to_z-of_z}
use Rattle.rational_theory.specs.laws.Fractions.{part_pos}
use Rattle.narrow_fraction.proofs.OneDenominator.{sum-over, top_gcd, fits_i128}
use Rattle.narrow_fraction.proofs.Short.{sum_short, sum_size, short_in, short_part, short_bottom}
use Rattle.narrow_fraction.proofs.sums.sum_of_short.Goals as goal

pub overflow_cast-b : goal.overflow_cast-b
overflow_cast-b c = record { fits = omega (arith, c.bottom-b.ensures.value, c.requires.left.den_short) }

pub overflow_cast-d : goal.overflow_cast-d
overflow_cast-d c = record { fits = omega (arith, c.bottom-d.ensures.value, c.requires.right.den_short) }

pub short_product-first-requires-clause-n : goal.short_product-first-requires-clause-n
short_product-first-requires-clause-n c = simp (to_z-of_z, c.num.ensures.value, fits_i128 c.args.x.num (rw c.num.ensures.value at c.num.ensures.size)) c.requires.left.num_short

pub short_product-first-requires-clause-by : goal.short_product-first-requires-clause-by
short_product-first-requires-clause-by c = rw (c.word_quotient-right_part.ensures, c.bottom-d.ensures.value) (short_part c.args.y.den c.word_divisor-shared.result c.requires.right.den_short)

pub short_product-second-requires-clause-n : goal.short_product-second-requires-clause-n
short_product-second-requires-clause-n c = simp (to_z-of_z, c.num-2.ensures.value, fits_i128 c.args.y.num (rw c.num-2.ensures.value at c.num-2.ensures.size)) c.requires.right.num_short

pub short_product-second-requires-clause-by : goal.short_product-second-requires-clause-by
short_product-second-requires-clause-by c = rw (c.word_quotient.ensures, c.bottom-b.ensures.value) (short_part c.args.x.den c.word_divisor-shared.result c.requires.left.den_short)

pub overflow_add-top : goal.overflow_add-top
overflow_add-top c =
    simp (to_z-of_z, short_in c.short_product-first.result c.short_product-first.ensures.size, short_in c.short_product-second.result c.short_product-second.ensures.size)
    (sum_short c.short_product-first.result c.short_product-second.result c.short_product-first.ensures.size c.short_product-second.ensures.size)

pub overflow_mul-bottom : goal.overflow_mul-bottom
overflow_mul-bottom c =
    let b = short_bottom c.args.x.den c.args.y.den c.word_divisor-shared.result c.requires.left.den_short c.requires.right.den_short in
    record { fits = rw (c.bottom-b.ensures.value, c.word_quotient-right_part.ensures, c.bottom-d.ensures.value) (omega (arith, b)) }

pub reduced_by-requires-clause-above : goal.reduced_by-requires-clause-above
reduced_by-requires-clause-above c =
    rw (c.word_quotient-right_part.ensures, c.word_divisor-shared.ensures.value, c.bottom-b.ensures.value, c.bottom-d.ensures.value)
    (mul-pos c.args.x.positive (part_pos c.args.x.den c.args.y.den c.args.y.positive))

pub reduced_by-requires-clause-top : goal.reduced_by-requires-clause-top
reduced_by-requires-clause-top c =
    let x = c.short_product-first.result in
    let y = c.short_product-second.result in
    let h = c.short_product-first.ensures.size in
    let k = c.short_product-second.ensures.size in
    simp (to_z-of_z, short_in x h, short_in y k, sum_short x y h k) (sum_size x y h k)

pub reduced_by-requires-clause-bottom : goal.reduced_by-requires-clause-bottom
reduced_by-requires-clause-bottom c =
    let b = short_bottom c.args.x.den c.args.y.den c.word_divisor-shared.result c.requires.left.den_short c.requires.right.den_short in
    rw (c.bottom-b.ensures.value, c.word_quotient-right_part.ensures, c.bottom-d.ensures.value) (omega (arith, b))

pub reduced_by-requires-clause-divisor : goal.reduced_by-requires-clause-divisor
reduced_by-requires-clause-divisor c =
    let n = fits_i128 c.args.x.num (rw c.num.ensures.value at c.num.ensures.size) in
    let m = fits_i128 c.args.y.num (rw c.num-2.ensures.value at c.num-2.ensures.size) in
    let i = simp (c.num.ensures.value, c.word_quotient-right_part.ensures, c.word_divisor-shared.ensures.value, c.bottom-b.ensures.value, c.bottom-d.ensures.value, to_z-of_z)
    at c.short_product-first.ensures.value in
    let j = simp (c.num-2.ensures.value, c.word_quotient.ensures, c.word_divisor-shared.ensures.value, c.bottom-b.ensures.value, c.bottom-d.ensures.value, to_z-of_z)
    at c.short_product-second.ensures.value in
    let f = short_in c.short_product-first.result c.short_product-first.ensures.size in
    let s = short_in c.short_product-second.result c.short_product-second.ensures.size in
    let t = sum_short c.short_product-first.result c.short_product-second.result c.short_product-first.ensures.size c.short_product-second.ensures.size in
    let k = simp (i, j, c.word_divisor-shared.ensures.value, c.bottom-b.ensures.value, c.bottom-d.ensures.value) at
    (simp (c.unsigned_abs.ensures.value, to_z-of_z) at c.common_divisor-divisor.ensures.value) in
    simp to_z-of_z (simp (i, j, c.word_quotient-right_part.ensures, c.word_divisor-shared.ensures.value, c.bottom-b.ensures.value, c.bottom-d.ensures.value) (k ∙ top_gcd c.args.x c.args.y))

pub returns : goal.returns
returns c =
    let n = fits_i128 c.args.x.num (rw c.num.ensures.value at c.num.ensures.size) in
    let m = fits_i128 c.args.y.num (rw c.num-2.ensures.value at c.num-2.ensures.size) in
    let i = simp (c.num.ensures.value, c.word_quotient-right_part.ensures, c.word_divisor-shared.ensures.value, c.bottom-b.ensures.value, c.bottom-d.ensures.value, to_z-of_z)
    at c.short_product-first.ensures.value in
    let j = simp (c.num-2.ensures.value, c.word_quotient.ensures, c.word_divisor-shared.ensures.value, c.bottom-b.ensures.value, c.bottom-d.ensures.value, to_z-of_z)
    at c.short_product-second.ensures.value in
    let f = short_in c.short_product-first.result c.short_product-first.ensures.size in
    let s = short_in c.short_product-second.result c.short_product-second.ensures.size in
    let t = sum_short c.short_product-first.result c.short_product-second.result c.short_product-first.ensures.size c.short_product-second.ensures.size in
    let k = simp (i, j, c.word_quotient-right_part.ensures, c.word_divisor-shared.ensures.value, c.bottom-b.ensures.value, c.bottom-d.ensures.value) at (simp to_z-of_z at c.reduced_by.ensures) in
    k ∙ sum-over c.args.x c.args.y
