use Rattle.whole_offsets.proofs.search.try_move.Goals as goal

pub returns : goal.returns
returns c = c.better_of.ensures c.args.artery.now c.args.base.now c.args.given c.in_ok-found.ensures
