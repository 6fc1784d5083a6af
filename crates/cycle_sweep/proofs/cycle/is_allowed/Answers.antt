use Rattle.cycle_sweep.proofs.Allowed.{second_says, first_says}
use Rattle.cycle_sweep.proofs.cycle.is_allowed.Goals as goal

pub returns-then-le : goal.returns-then-le
returns-then-le c =
    second_says c.args.artery.now c.cycle-limits.result c.args.cycle c.le.result c.cycle-limits.ensures.value c.le.ensures c.le-then-le.result c.le-then-le.ensures c.if-le.true

pub returns-else-le : goal.returns-else-le
returns-else-le c = first_says c.args.artery.now c.cycle-limits.result c.args.cycle c.le.result c.cycle-limits.ensures.value c.le.ensures c.if-le.false
