use Rattle.std.proofs.Common.{arith}
use Rattle.link_space.proofs.LinkFirsts.{after_ratios, first_ratio}
use Rattle.std.proofs.lemmas.Grind.{common_steps}
use Rattle.link_space.proofs.rules.check_ratios.Goals as goal

pub loop-link-preserved : goal.loop-link-preserved
loop-link-preserved c = grind (arith, after_ratios, first_ratio)

pub returns : goal.returns
returns c = grind (arith, common_steps)
