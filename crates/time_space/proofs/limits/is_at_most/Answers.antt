use Rattle.std.proofs.Common.{arith}
use Rattle.std.proofs.lemmas.Int.{to_z-of_z}
use Rattle.time_space.proofs.Fits.{returned, fits, natural_fits, compared}
use Rattle.time_space.proofs.GridLimits.{most_is}
use Rattle.time_space.proofs.limits.is_at_most.Goals as goal

pub returns : goal.returns
returns c =
    let p = simp (to_z-of_z, c.den.ensures.value, natural_fits c.args.limit.den (omega arith)) at c.product.ensures in
    let q = simp (to_z-of_z, c.num.ensures.value, fits c.args.limit.num (omega arith)) at c.product-2.ensures in
    simp (to_z-of_z, returned c.product.result c.product.type_inv, returned c.product-2.result c.product-2.type_inv)
    (compared _ _ _ _ p q (most_is c.args.limit c.args.grid c.args.ticks))
