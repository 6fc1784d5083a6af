use Rattle.std.proofs.Common.{arith}
use Rattle.std.proofs.lemmas.Grind.{common_steps}
use Rattle.diagram_print.proofs.sites.push_wide_line.Goals as goal

pub returns-in_err-push_text-3 : goal.returns-in_err-push_text-3
returns-in_err-push_text-3 c = grind (arith, common_steps)

pub returns : goal.returns
returns c = grind (arith, common_steps)
