use Rattle.run_laws.proofs.PlansSay.{half_says}
use Rattle.run_laws.proofs.plans.law_half_says.Goals as goal

pub returns : goal.returns
returns c = half_says c.law_one_end.ensures
