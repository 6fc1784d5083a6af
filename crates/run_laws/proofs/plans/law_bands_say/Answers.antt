use Rattle.run_laws.proofs.PlansSay.{bands_say}
use Rattle.run_laws.proofs.plans.law_bands_say.Goals as goal

pub returns : goal.returns
returns c = bands_say
