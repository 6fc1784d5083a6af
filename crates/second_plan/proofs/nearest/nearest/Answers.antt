use Rattle.second_plan.proofs.Rounding.{rounds_down, rounds_up}
use Rattle.second_plan.proofs.nearest.nearest.Goals as goal

pub returns-then-by-rest-clause-near : goal.returns-then-by-rest-clause-near
returns-then-by-rest-clause-near c = rounds_up c.args.number c.args.by c.requires.by c.if-by-rest.true

pub returns-else-by-rest-clause-near : goal.returns-else-by-rest-clause-near
returns-else-by-rest-clause-near c = rounds_down c.args.number c.args.by c.requires.by c.if-by-rest.false
