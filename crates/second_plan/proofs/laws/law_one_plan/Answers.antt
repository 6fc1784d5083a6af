use Rattle.second_plan.proofs.Once.{one_plan}
use Rattle.second_plan.proofs.laws.law_one_plan.Goals as goal

pub returns : goal.returns
returns c = one_plan
