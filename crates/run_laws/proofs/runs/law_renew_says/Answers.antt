use Rattle.run_laws.proofs.Says.{renew_says}
use Rattle.run_laws.proofs.runs.law_renew_says.Goals as goal

pub returns : goal.returns
returns c = renew_says
