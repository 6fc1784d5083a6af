use Rattle.std.proofs.Common.{◌≡◌, pos, ◌*◌, ◌≤◌, to_z, of_z, arith, mul-pos}
use Rattle.std.specs.Int.{w128}
use Rattle.std.proofs.lemmas.Int.{ints, to_z-of_z}
use Rattle.search_box.specs.Sums.{top_of}
use Rattle.search_box.proofs.Sums.{top_small}
use Rattle.search_box.proofs.root.sum_over.Goals as goal

pub invariant_of-result : goal.invariant_of-result
invariant_of-result c =
    let a = c.args in
    let t = c.top.result in
    let b = c.bottom.result in
    let size = c.top.ensures.size in
    let bottom_size = c.bottom.ensures.size in
    let parts : to_z w128 (of_z w128 a.parts) ≡ a.parts = omega (arith, ints) in
    let top : t ≡ top_of a.parts a.whole a.first a.second = (let e = c.top.ensures.value in rw parts at e) in
    let wide : to_z w128 (of_z w128 t) ≡ t = to_z-of_z w128 t (omega (arith, ints, size)) in
    let below : to_z w128 (of_z w128 b) ≡ b = to_z-of_z w128 b (omega (arith, ints, bottom_size)) in
    let some : 1 ≤ a.whole * (a.first.bottom * a.second.bottom) = mul-pos c.requires.some (mul-pos a.first.some a.second.some) in
    record {
      top_small = rw wide size;
      some = rw (below, c.bottom.ensures.value) (omega (arith, ints, some));
      bottom_small = rw below bottom_size;
      fits = rw (wide, below, top, c.bottom.ensures.value) (top_small a.parts a.whole a.first a.second c.requires.some c.requires.parts);
    }
