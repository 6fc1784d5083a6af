use Rattle.run_laws.proofs.Moving.{widen_says}
use Rattle.run_laws.proofs.plans.law_widen_says.Goals as goal

pub returns : goal.returns
returns c = widen_says
