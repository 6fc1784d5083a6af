use Rattle.std.proofs.Common.{arith}
use Rattle.std.proofs.lemmas.Int.{to_z-of_z}
use Rattle.time_space.proofs.Fits.{returned, fits, natural_fits, compared}
use Rattle.time_space.proofs.Fractions.{ratio_is}
use Rattle.time_space.proofs.limits.is_in_ratio.Goals as goal

pub returns : goal.returns
returns c =
    let p = simp (to_z-of_z, c.num.ensures.value, fits c.args.ratio.num (omega arith)) at c.rest_times_band.ensures in
    let q = simp (to_z-of_z, c.den.ensures.value, natural_fits c.args.ratio.den (omega arith)) at c.rest_times_band-2.ensures in
    simp (to_z-of_z, returned c.rest_times_band.result c.rest_times_band.type_inv, returned c.rest_times_band-2.result c.rest_times_band-2.type_inv)
    (compared _ _ _ _ p q (ratio_is c.args.ratio c.args.band_out c.args.band_in))
