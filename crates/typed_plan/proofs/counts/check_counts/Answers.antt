use Rattle.std.proofs.Common.{arith}
use Rattle.std.proofs.lemmas.Grind.{common_steps}
use Rattle.typed_plan.proofs.counts.check_counts.Goals as goal

pub returns-in_err-check_count-2 : goal.returns-in_err-check_count-2
returns-in_err-check_count-2 c = grind (arith, common_steps)

pub returns-in_err-check_count : goal.returns-in_err-check_count
returns-in_err-check_count c = grind (arith, common_steps)
