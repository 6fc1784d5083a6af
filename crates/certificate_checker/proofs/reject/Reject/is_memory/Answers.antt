use Rattle.std.proofs.Common.{arith}
use Rattle.std.proofs.lemmas.Grind.{common_steps}
use Rattle.certificate_checker.proofs.reject.Reject.is_memory.Goals as goal

pub returns-in-Memory : goal.returns-in-Memory
returns-in-Memory c = grind (arith, common_steps)

pub returns-in-TimingFails-2 : goal.returns-in-TimingFails-2
returns-in-TimingFails-2 c = grind (arith, common_steps)

pub returns-in-TimingFails-8 : goal.returns-in-TimingFails-8
returns-in-TimingFails-8 c = grind (arith, common_steps)
