use Rattle.second_plan.proofs.Once.{one_end}
use Rattle.second_plan.proofs.laws.law_one_end.Goals as goal

pub returns : goal.returns
returns c = one_end
