use Rattle.std.proofs.lemmas.Int.{to_z-of_z}
use Rattle.narrow_fraction.proofs.Fitting.{word_i128, product_i128}
use Rattle.narrow_fraction.proofs.compare.compare_products.Goals as goal

pub returns : goal.returns
returns c =
    let p = word_i128 c.args.a c.ranges.a in
    let q = word_i128 c.args.b c.ranges.b in
    let r = word_i128 c.args.c c.ranges.c in
    let s = word_i128 c.args.d c.ranges.d in
    let u = product_i128 c.args.a c.args.b c.ranges.a c.ranges.b in
    let v = product_i128 c.args.c c.args.d c.ranges.c c.ranges.d in
    simp (to_z-of_z, c.ranges.a, c.ranges.b, c.ranges.c, c.ranges.d, p, q, r, s, u, v) at c.cmp.ensures
