use Rattle.std.proofs.Common.{◌≡◌, ℤ, pos, neg_ℤ, ◌-ℤ◌, to_z, of_z, ap, ◌∙◌, arith}
use Rattle.std.specs.Int.{w64, w128, int_div_euclid}
use Rattle.std.proofs.lemmas.Int.{ints, to_z-of_z}
use Rattle.search_box.proofs.root.ceiling.Goals as goal

pub returns : goal.returns
returns c =
    let t = c.args.sum.top in
    let q = c.floor.result in
    let small = c.args.sum.top_small in
    let wide : to_z w128 (of_z w128 t) ≡ t = omega (arith, ints, small) in
    let minus : to_z w128 (of_z w128 (pos 0 -ℤ t)) ≡ pos 0 -ℤ t = to_z-of_z w128 (pos 0 -ℤ t) (omega (arith, ints, small)) in
    let turned : pos 0 -ℤ t ≡ neg_ℤ t = omega (arith, ints) in
    let bottom = c.args.sum.bottom_small in
    let below : to_z w128 (of_z w128 c.args.sum.bottom) ≡ c.args.sum.bottom = to_z-of_z w128 c.args.sum.bottom (omega (arith, ints, bottom)) in
    let is = (let e = c.floor.ensures.value in rw (wide, minus, turned, below) at e) in
    let size = c.floor.ensures.size in
    let narrow : to_z w64 (of_z w64 q) ≡ q = omega (arith, ints, size) in
    let back : to_z w64 (of_z w64 (pos 0 -ℤ q)) ≡ pos 0 -ℤ q = to_z-of_z w64 (pos 0 -ℤ q) (omega (arith, ints, size)) in
    let back_turned : pos 0 -ℤ q ≡ neg_ℤ q = omega (arith, ints) in
    rw (narrow, back, back_turned) (ap neg_ℤ is)
