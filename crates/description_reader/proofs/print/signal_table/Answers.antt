use Rattle.std.proofs.Common.{arith}
use Rattle.std.proofs.lemmas.Grind.{common_steps}
use Rattle.description_reader.proofs.print.signal_table.Goals as goal

pub returns-in_err-put : goal.returns-in_err-put
returns-in_err-put c = grind (arith, common_steps)

pub returns : goal.returns
returns c = grind (arith, common_steps)

pub returns-in_err-put_number-4 : goal.returns-in_err-put_number-4
returns-in_err-put_number-4 c = grind (arith, common_steps)
