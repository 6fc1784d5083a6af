use Rattle.std.proofs.Common.{arith}
use Rattle.std.proofs.lemmas.Grind.{common_steps}
use Rattle.artery_model.proofs.ranges.check_each_link.Goals as goal

pub returns-in_err-check_link_ranges : goal.returns-in_err-check_link_ranges
returns-in_err-check_link_ranges c = grind (arith, common_steps)

pub loop-index-preserved : goal.loop-index-preserved
loop-index-preserved c = grind (arith, common_steps)
