use Rattle.std.proofs.Common.{arith}
use Rattle.std.proofs.lemmas.Grind.{common_steps}
use Rattle.plan_text.proofs.cert_writing.push_value.Goals as goal

pub returns-in_err-push_text : goal.returns-in_err-push_text
returns-in_err-push_text c = grind (arith, common_steps)

pub returns-in_err-push_exact : goal.returns-in_err-push_exact
returns-in_err-push_exact c = grind (arith, common_steps)

pub returns : goal.returns
returns c = grind (arith, common_steps)
