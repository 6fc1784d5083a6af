use Rattle.std.proofs.Common.{arith}
use Rattle.multi_band.specs.laws.FarRows.{far_within}
use Rattle.multi_band.proofs.LinkTables.{links_few}
use Rattle.multi_band.proofs.building.pivot_of.Goals as goal

pub overflow_add-result : goal.overflow_add-result
overflow_add-result c =
    let w = far_within c.args.artery.now c.args.dir c.args.link (c.requires.first, c.requires.last) in
    let f = links_few c.args.artery.now c.known_valid.ensures in
    omega (arith, w, f, c.requires.row)
