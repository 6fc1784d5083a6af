use Rattle.loop_rows.proofs.ArterySets.{artery_is_set}
use Rattle.loop_rows.proofs.rows.ArteryRowsRowTable.known_rows.Goals as goal

pub returns : goal.returns
returns c = artery_is_set c.args.self.now.artery.now c.known_valid.ensures
