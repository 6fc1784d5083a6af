use Rattle.timing_words.proofs.GreenWays.{same_way}
use Rattle.timing_words.proofs.ways.has_band.Goals as goal

pub returns : goal.returns
returns c = same_way c.args.artery.now c.args.timing.now c.args.dir c.is_green_way.result c.is_green_way.ensures
