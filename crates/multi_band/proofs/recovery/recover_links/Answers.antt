use Rattle.std.proofs.Common.{arith}
use Rattle.multi_band.proofs.LinkRecoveries.{link_outcome, link_sound}
use Rattle.multi_band.proofs.recovery.recover_links.Goals as goal

-- at most 24 signals have few columns
pub read-requires-clause-few : goal.read-requires-clause-few
read-requires-clause-few c = let e = c.requires.vertex.columns in let m = c.known_valid.ensures.many in omega (arith, e, m)

pub returns-clause-outcome : goal.returns-clause-outcome
returns-clause-outcome c = link_outcome c.args.artery.now c.args.area.now c.args.point.now.values.items c.read.result c.read.ensures

pub returns-clause-sound : goal.returns-clause-sound
returns-clause-sound c =
    let a = c.args.artery.now in let box = c.args.area.now in let x = c.args.point.now.values.items in
    link_sound a box x (c.law_valid_street.ensures a c.known_valid.ensures) c.requires.boxed c.requires.vertex c.read.result (link_outcome a box x c.read.result c.read.ensures)
