use Rattle.std.proofs.Common.{arith}
use Rattle.std.proofs.lemmas.Int.{to_z-of_z}
use Rattle.time_space.proofs.Remainders.{band_result}
use Rattle.time_space.proofs.ticks.first_red.Goals as goal

pub returns : goal.returns
returns c =
    let s = c.ranges.start in
    let x = c.ranges.edge in
    let e = simp to_z-of_z at c.since_start-since.ensures.value in
    band_result _ _ _ _ c.args.start c.args.edge _ (omega arith) e c.first_shut.ensures
