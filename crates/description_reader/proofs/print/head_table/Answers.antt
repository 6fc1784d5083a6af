use Rattle.std.proofs.Common.{arith}
use Rattle.std.proofs.lemmas.Grind.{common_steps}
use Rattle.description_reader.proofs.print.head_table.Goals as goal

pub returns-in_err-put_text-2 : goal.returns-in_err-put_text-2
returns-in_err-put_text-2 c = grind (arith, common_steps)

pub returns-in_err-put_number : goal.returns-in_err-put_number
returns-in_err-put_number c = grind (arith, common_steps)

pub returns-in_err-put : goal.returns-in_err-put
returns-in_err-put c = grind (arith, common_steps)

pub returns-in_err-put_bands : goal.returns-in_err-put_bands
returns-in_err-put_bands c = grind (arith, common_steps)

pub returns : goal.returns
returns c = grind (arith, common_steps)

pub returns-in_err-put_text : goal.returns-in_err-put_text
returns-in_err-put_text c = grind (arith, common_steps)

pub returns-in_err-put_pair : goal.returns-in_err-put_pair
returns-in_err-put_pair c = grind (arith, common_steps)
