use Rattle.whole_offsets.proofs.Cycles.{cycle_some, cycle_small}
use Rattle.whole_offsets.proofs.whole.steady.Goals as goal

pub scale_of-requires-clause-some : goal.scale_of-requires-clause-some
scale_of-requires-clause-some c = cycle_some c.args.artery.now c.args.seconds c.known_valid.ensures c.requires.whole

pub scale_of-requires-clause-small : goal.scale_of-requires-clause-small
scale_of-requires-clause-small c = cycle_small c.args.artery.now c.args.seconds c.known_valid.ensures c.requires.whole
