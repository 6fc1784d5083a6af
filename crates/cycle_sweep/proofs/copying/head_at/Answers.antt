use Rattle.std.proofs.Common.{rules}
use Rattle.cycle_sweep.proofs.copying.head_at.Goals as goal

pub returns : goal.returns
returns c = search rules
