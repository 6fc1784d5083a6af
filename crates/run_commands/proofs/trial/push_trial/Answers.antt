use Rattle.std.proofs.Common.{arith}
use Rattle.std.proofs.lemmas.Grind.{elements, common_steps}
use Rattle.run_commands.proofs.trial.push_trial.Goals as goal

pub returns-in_err-push_numbered-2 : goal.returns-in_err-push_numbered-2
returns-in_err-push_numbered-2 c = grind (arith, elements)

pub returns-in_err-push_text : goal.returns-in_err-push_text
returns-in_err-push_text c = grind (arith, common_steps)

pub returns-in_err-push_claim : goal.returns-in_err-push_claim
returns-in_err-push_claim c = grind (arith, elements)

pub returns-in_err-push_numbered-3 : goal.returns-in_err-push_numbered-3
returns-in_err-push_numbered-3 c = grind (arith, elements)

pub returns : goal.returns
returns c = grind (arith, common_steps)
