use Rattle.std.proofs.Common.{arith}
use Rattle.rational_theory.proofs.Compare.{lt_true, lt_false}
use Rattle.dual_simplex.proofs.choose.better_row.Goals as goal

pub returns-else-negative-2 : goal.returns-else-negative-2
returns-else-negative-2 c = grind (arith, lt_true, lt_false)
