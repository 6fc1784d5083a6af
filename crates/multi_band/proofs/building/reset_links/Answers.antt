use Rattle.multi_band.proofs.LinkOpenings.{opened_for_links}
use Rattle.multi_band.proofs.building.reset_links.Goals as goal

pub returns-clause-opened : goal.returns-clause-opened
returns-clause-opened c = opened_for_links c.args.artery.now c.args.area.now _ c.known_valid.ensures c.enter_halves.ensures
