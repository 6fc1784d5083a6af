use Rattle.second_plan.proofs.Once.{plan_or_end}
use Rattle.second_plan.proofs.laws.law_plan_or_end.Goals as goal

pub returns : goal.returns
returns c = plan_or_end
