use Rattle.std.proofs.Common.{arith}
use Rattle.cycle_sweep.proofs.Saying.{rows_say}
use Rattle.cycle_sweep.proofs.laws.law_rows_say.Goals as goal

pub returns : goal.returns
returns c = grind (arith, rows_say)
