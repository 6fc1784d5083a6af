use Rattle.run_laws.proofs.PlansSay.{timing_says}
use Rattle.run_laws.proofs.plans.law_timing_says.Goals as goal

pub returns : goal.returns
returns c = timing_says
