use Rattle.link_space.proofs.LinkSets.{links_are_set}
use Rattle.link_space.proofs.rows.LinkRowsRowTable.known_rows.Goals as goal

pub returns : goal.returns
returns c = links_are_set c.args.self.now.artery.now c.known_valid.ensures
