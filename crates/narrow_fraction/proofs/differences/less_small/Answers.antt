use Rattle.std.proofs.Common.{◌∙◌, arith, mul-pos}
use Rattle.std.proofs.lemmas.Int.{to_z-of_z, to_z_pos}
use Rattle.narrow_fraction.proofs.Fitting.{word_i128, word_in, word_size}
use Rattle.narrow_fraction.proofs.LessProducts.{less_over, three_small, small_words}
use Rattle.narrow_fraction.proofs.differences.less_small.Goals as goal

pub overflow_mul-below : goal.overflow_mul-below
overflow_mul-below c = record { fits = omega (arith, (small_words c.args.from c.args.factor c.args.other c.requires.from c.requires.factor c.requires.other).below) }

pub overflow_mul-part : goal.overflow_mul-part
overflow_mul-part c =
    let w = small_words c.args.from c.args.factor c.args.other c.requires.from c.requires.factor c.requires.other in
    simp (to_z-of_z, w.factor_top, w.other_top) w.part

pub overflow_cast-below : goal.overflow_cast-below
overflow_cast-below c = record { sfits = (small_words c.args.from c.args.factor c.args.other c.requires.from c.requires.factor c.requires.other).below }

pub overflow_cast-from : goal.overflow_cast-from
overflow_cast-from c = record { sfits = (small_words c.args.from c.args.factor c.args.other c.requires.from c.requires.factor c.requires.other).bottom }

pub less_product-top-requires : goal.less_product-top-requires
less_product-top-requires c =
    let f = c.requires.from in
    let n = c.requires.factor in
    let o = c.requires.other in
    let w = small_words c.args.from c.args.factor c.args.other f n o in
    simp (to_z-of_z, to_z_pos, w.top, w.factor_top, w.other_top, w.part, w.below, w.bottom)
    (three_small c.args.from.top c.args.factor.top c.args.other.top c.args.from.bottom c.args.factor.bottom c.args.other.bottom f.top n.top o.top f.bottom n.bottom o.bottom)

pub overflow_mul-under : goal.overflow_mul-under
overflow_mul-under c =
    record { fits = omega (arith, (small_words c.args.from c.args.factor c.args.other c.requires.from c.requires.factor c.requires.other).under) }

pub overflow_cast-top : goal.overflow_cast-top
overflow_cast-top c =
    let r = word_in c.less_product-top.result c.less_product-top.type_inv in
    simp (to_z-of_z, r) (word_i128 c.less_product-top.result r)

pub reduced_by-requires-clause-above : goal.reduced_by-requires-clause-above
reduced_by-requires-clause-above c = mul-pos (mul-pos c.requires.factor.above c.requires.other.above) c.requires.from.above

pub reduced_by-requires-clause-top : goal.reduced_by-requires-clause-top
reduced_by-requires-clause-top c =
    let r = word_in c.less_product-top.result c.less_product-top.type_inv in
    simp (to_z-of_z, r, word_i128 c.less_product-top.result r) (word_size c.less_product-top.result r)

pub reduced_by-requires-clause-bottom : goal.reduced_by-requires-clause-bottom
reduced_by-requires-clause-bottom c =
    omega (arith, (small_words c.args.from c.args.factor c.args.other c.requires.from c.requires.factor c.requires.other).under)

pub reduced_by-requires-clause-divisor : goal.reduced_by-requires-clause-divisor
reduced_by-requires-clause-divisor c =
    let r = word_in c.less_product-top.result c.less_product-top.type_inv in
    let e = simp (to_z-of_z, r, c.unsigned_abs.ensures.value) at c.word_divisor-shared.ensures.value in
    simp (to_z-of_z, r, word_i128 c.less_product-top.result r) e

pub returns : goal.returns
returns c =
    let w = small_words c.args.from c.args.factor c.args.other c.requires.from c.requires.factor c.requires.other in
    let t = simp (to_z-of_z, to_z_pos, w.top, w.factor_top, w.other_top, w.part, w.below, w.bottom) at c.less_product-top.ensures in
    let r = word_in c.less_product-top.result c.less_product-top.type_inv in
    let i = word_i128 c.less_product-top.result r in
    let v = simp (to_z-of_z, r, i) at c.reduced_by.ensures in
    (rw t at v) ∙ less_over c.args.from.top c.args.factor.top c.args.other.top c.args.from.bottom c.args.factor.bottom c.args.other.bottom c.requires.from.above
    c.requires.factor.above c.requires.other.above
