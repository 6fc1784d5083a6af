use Rattle.typed_plan.proofs.OneTiming.{one_timing}
use Rattle.typed_plan.proofs.law_one_timing.Goals as goal

pub returns : goal.returns
returns c = one_timing
