use Rattle.run_laws.proofs.LimitsSay.{sensitivity_says}
use Rattle.run_laws.proofs.plans.law_sensitivity_says.Goals as goal

pub returns : goal.returns
returns c = sensitivity_says c.law_rows_say.ensures
