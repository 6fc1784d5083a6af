use Rattle.std.proofs.Common.{◌<◌, ◌^◌, arith, ap, ◌∙◌, unsigned_abs}
use Rattle.std.proofs.lemmas.Int.{to_z-of_z, to_z_pos}
use Rattle.progression.proofs.Remainders.{mod-rem}
use Rattle.time_space.proofs.Fits.{returned, within_fits}
use Rattle.time_space.proofs.ticks.since_start.Goals as goal

pub returns-clause-value : goal.returns-clause-value
returns-clause-value c =
    let n : c.args.cycle < 2 ^ 127 = omega arith in
    let f = within_fits c.args.tick c.args.start c.requires.tick c.requires.start in
    let e = simp (to_z-of_z, to_z_pos, c.ranges.tick, c.ranges.start, f, n) at c.rem_euclid.ensures.value in
    simp (to_z-of_z, returned c.rem_euclid.result c.rem_euclid.type_inv) (ap unsigned_abs (e ∙ mod-rem _ _))
