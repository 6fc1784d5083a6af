use Rattle.run_laws.proofs.Moving.{narrow_says}
use Rattle.run_laws.proofs.plans.law_narrow_says.Goals as goal

pub returns : goal.returns
returns c = narrow_says
