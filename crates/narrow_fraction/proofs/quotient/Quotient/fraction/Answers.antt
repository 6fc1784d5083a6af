use Rattle.std.proofs.Common.{arith}
use Rattle.rational_theory.proofs.Compare.{ne_false, eq_true, lt_true, lt_false, le_true, le_false}
use Rattle.narrow_fraction.proofs.quotient.Quotient.fraction.Goals as goal

pub overflow_cast-number : goal.overflow_cast-number
overflow_cast-number c = grind (arith, ne_false, eq_true, lt_true, lt_false, le_true, le_false)
