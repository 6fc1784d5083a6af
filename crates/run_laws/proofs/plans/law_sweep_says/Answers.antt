use Rattle.run_laws.proofs.PlansSay.{sweep_says}
use Rattle.run_laws.proofs.plans.law_sweep_says.Goals as goal

pub returns : goal.returns
returns c = sweep_says c.law_rows_say.ensures
