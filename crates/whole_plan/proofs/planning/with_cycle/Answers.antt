use Rattle.whole_plan.proofs.planning.with_cycle.Goals as goal

pub returns : goal.returns
returns c = c.with_outcome.ensures c.args.artery.now c.args.given.now c.in_ok-outcome.ensures
