use Rattle.std.proofs.Common.{arith}
use Rattle.std.proofs.lemmas.Grind.{elements, common_steps}
use Rattle.artery_parts.proofs.copies.copied_signals.Goals as goal

pub returns-in_err-push : goal.returns-in_err-push
returns-in_err-push c = grind (arith, elements)

pub loop-signal-preserved : goal.loop-signal-preserved
loop-signal-preserved c = grind (arith, common_steps)

pub returns : goal.returns
returns c = grind (arith, elements)
