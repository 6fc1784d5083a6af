use Rattle.std.proofs.Common.{arith}
use Rattle.std.proofs.lemmas.Grind.{common_steps}
use Rattle.diagram_print.proofs.stopped.push_wide_lines.Goals as goal

pub returns-in_err-push_loops_line : goal.returns-in_err-push_loops_line
returns-in_err-push_loops_line c = grind (arith, common_steps)

pub returns-in_err-push_count_line : goal.returns-in_err-push_count_line
returns-in_err-push_count_line c = grind (arith, common_steps)

pub returns : goal.returns
returns c = grind (arith, common_steps)
