use Rattle.std.proofs.Common.{arith}
use Rattle.std.proofs.lemmas.Grind.{elements, common_steps}
use Rattle.maxband_run.proofs.finish.deliver.Goals as goal

pub returns-then-is_err : goal.returns-then-is_err
returns-then-is_err g c = grind (arith, elements)

pub returns-in-Err-Failed : goal.returns-in-Err-Failed
returns-in-Err-Failed g c = grind (arith, common_steps)

pub returns-in-Err : goal.returns-in-Err
returns-in-Err g c = grind (arith, common_steps)

pub returns-in-Err-Memory : goal.returns-in-Err-Memory
returns-in-Err-Memory g c = grind (arith, elements)
