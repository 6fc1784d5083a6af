use Rattle.std.proofs.Common.{arith}
use Rattle.rational_theory.proofs.Compare.{eq_true, eq_false}
use Rattle.multi_band.proofs.building.ratio_rows.Goals as goal

pub returns-then-eq : goal.returns-then-eq
returns-then-eq c = grind (arith, eq_true, eq_false)

pub returns : goal.returns
returns c = grind (arith, eq_true, eq_false)
