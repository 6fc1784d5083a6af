use Rattle.std.proofs.Common.{arith}
use Rattle.std.proofs.lemmas.Grind.{common_steps}
use Rattle.multi_band.proofs.report.push_base_lines.Goals as goal

pub returns : goal.returns
returns c = grind (arith, common_steps)
