use Rattle.std.proofs.Common.{arith}
use Rattle.std.proofs.lemmas.Int.{to_z-of_z}
use Rattle.time_space.proofs.Fits.{returned, fits, natural_fits, compared}
use Rattle.time_space.proofs.Fractions.{drop_is}
use Rattle.time_space.proofs.limits.is_change_at_least.Goals as goal

pub returns : goal.returns
returns c =
    let s = c.args.paces in
    let p = simp (to_z-of_z, c.num.ensures.value, c.grid_and_lengths.ensures.value, fits c.args.limit.num (omega arith)) at c.limit_product-bound.ensures in
    let q = simp (to_z-of_z, c.den.ensures.value, returned c.change_of.result c.change_of.type_inv, natural_fits c.args.limit.den (omega arith)) at c.scaled.ensures in
    simp (to_z-of_z, returned c.limit_product-bound.result c.limit_product-bound.type_inv, returned c.scaled.result c.scaled.type_inv)
    (compared _ _ _ _ p (rw c.change_of.ensures.value at q) (drop_is c.args.limit c.args.grid s.run s.distance s.next_run s.next_distance s.some s.next_some))
