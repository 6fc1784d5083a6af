use Rattle.std.proofs.Common.{arith}
use Rattle.std.proofs.lemmas.Grind.{common_steps}
use Rattle.certificate_model.specs.Families.{ordinary}
use Rattle.plan_text.proofs.second_writing.push_row.Goals as goal

pub returns : goal.returns
unfolding ordinary
returns c = grind (arith, common_steps)
