use Rattle.std.proofs.Common.{arith}
use Rattle.std.proofs.lemmas.Grind.{common_steps}
use Rattle.description_reader.proofs.print.link_table.Goals as goal

pub returns-in_err-put_if_given-2 : goal.returns-in_err-put_if_given-2
returns-in_err-put_if_given-2 c = grind (arith, common_steps)

pub returns : goal.returns
returns c = grind (arith, common_steps)

pub returns-in_err-put_number : goal.returns-in_err-put_number
returns-in_err-put_number c = grind (arith, common_steps)

pub returns-in_err-put_number-2 : goal.returns-in_err-put_number-2
returns-in_err-put_number-2 c = grind (arith, common_steps)

pub returns-in_err-put_pair : goal.returns-in_err-put_pair
returns-in_err-put_pair c = grind (arith, common_steps)

pub returns-in_err-put_pair-2 : goal.returns-in_err-put_pair-2
returns-in_err-put_pair-2 c = grind (arith, common_steps)

pub returns-in_err-put_if_given : goal.returns-in_err-put_if_given
returns-in_err-put_if_given c = grind (arith, common_steps)
