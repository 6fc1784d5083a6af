use Rattle.std.proofs.Common.{◌≡◌, to_z, of_z, ap, sym, ◌∙◌, arith}
use Rattle.std.specs.Int.{w128}
use Rattle.std.proofs.lemmas.Int.{ints}
use Rattle.rational_theory.specs.Floor.{floor_ℚ, ceil_ℚ}
use Rattle.search_box.specs.Sums.{parts_at}
use Rattle.search_box.proofs.Sums.{floor_sum, ceil_sum, sum_at_is}
use Rattle.search_box.proofs.root.sum_at.Goals as goal

pub returns : goal.returns
returns c =
    let a = c.args.artery.now in
    let i = c.args.link in
    let end = c.args.end in
    let x = c.run_at-outbound.result in
    let y = c.run_at-inbound.result in
    let parts : to_z w128 (of_z w128 c.parts_at.result) ≡ c.parts_at.result = omega (arith, ints) in
    let some = c.parts.ensures.least in
    let is = sum_at_is a (omega (arith, some, c.parts.ensures.value)) end i x y c.run_at-outbound.ensures c.run_at-inbound.ensures in
    let top = (let e = c.sum_over.ensures.top in rw (parts, c.parts_at.ensures.value, c.parts.ensures.value) at e) in
    let bottom = (let e = c.sum_over.ensures.bottom in rw c.parts.ensures.value at e) in
    record {
      floor = rw (top, bottom) (sym (floor_sum (parts_at a end i) a.head.parts x y (omega (arith, some, c.parts.ensures.value))) ∙ ap floor_ℚ is);
      ceiling = rw (top, bottom) (sym (ceil_sum (parts_at a end i) a.head.parts x y (omega (arith, some, c.parts.ensures.value))) ∙ ap ceil_ℚ is);
    }
