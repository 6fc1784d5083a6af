use Rattle.std.proofs.Common.{◌*ℤ◌}
use Rattle.std.proofs.lemmas.Int.{to_z-of_z}
use Rattle.narrow_fraction.proofs.Fitting.{first_part, second_part, whole_part, minus_is}
use Rattle.narrow_fraction.proofs.differences.less_product.Goals as goal

pub overflow_sub-result : goal.overflow_sub-result
overflow_sub-result c =
    let p = first_part c.args.own c.args.scale c.args.factor c.args.other c.requires in
    let q = second_part c.args.own c.args.scale c.args.factor c.args.other c.requires in
    simp (to_z-of_z, c.ranges.own, c.ranges.scale, c.ranges.factor, c.ranges.other, p, q) (whole_part c.args.own c.args.scale c.args.factor c.args.other c.requires)

pub returns : goal.returns
returns c =
    let p = first_part c.args.own c.args.scale c.args.factor c.args.other c.requires in
    let q = second_part c.args.own c.args.scale c.args.factor c.args.other c.requires in
    let r = whole_part c.args.own c.args.scale c.args.factor c.args.other c.requires in
    simp (to_z-of_z, c.ranges.own, c.ranges.scale, c.ranges.factor, c.ranges.other, p, q, r) (minus_is (c.args.own *ℤ c.args.scale) (c.args.factor *ℤ c.args.other))
