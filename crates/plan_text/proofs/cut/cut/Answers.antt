use Rattle.std.proofs.Common.{arith}
use Rattle.std.proofs.lemmas.Grind.{common_steps}
use Rattle.plan_text.proofs.cut.cut.Goals as goal

pub returns-then-byte-at : goal.returns-then-byte-at
returns-then-byte-at c = grind (arith, common_steps)

pub loop-place-preserved : goal.loop-place-preserved
loop-place-preserved c = grind (arith, common_steps)
