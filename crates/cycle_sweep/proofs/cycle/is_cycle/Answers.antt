use Rattle.std.proofs.Common.{pos}
use Rattle.artery_parts.proofs.Quantities.{quantity_says}
use Rattle.cycle_sweep.proofs.cycle.is_cycle.Goals as goal

pub returns-clause-quantity : goal.returns-clause-quantity
returns-clause-quantity c = quantity_says (pos 1) (pos 3600) c.args.cycle c.is_within.result c.is_within.ensures
