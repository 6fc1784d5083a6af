use Rattle.std.proofs.Common.{arith}
use Rattle.std.proofs.lemmas.Grind.{common_steps}
use Rattle.rational_theory.proofs.Compare.{ne_false, eq_true, lt_true, lt_false, le_true, le_false}
use Rattle.second_plan.proofs.seconds.offset.Goals as goal

pub overflow_mul-from : goal.overflow_mul-from
overflow_mul-from c = grind (arith, common_steps)

pub nearest-rounded-requires : goal.nearest-rounded-requires
nearest-rounded-requires c = grind (arith, ne_false, eq_true, lt_true, lt_false, le_true, le_false)
