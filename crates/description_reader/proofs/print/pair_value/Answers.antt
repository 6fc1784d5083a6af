use Rattle.std.proofs.Common.{arith}
use Rattle.std.proofs.lemmas.Grind.{common_steps}
use Rattle.description_reader.proofs.print.pair_value.Goals as goal

pub returns-in_err-quantity_value : goal.returns-in_err-quantity_value
returns-in_err-quantity_value c = grind (arith, common_steps)

pub returns-in_err-push-2 : goal.returns-in_err-push-2
returns-in_err-push-2 c = grind (arith, common_steps)
