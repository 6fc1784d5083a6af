use Rattle.run_laws.proofs.Says.{check_says}
use Rattle.run_laws.proofs.runs.law_check_says.Goals as goal

pub returns : goal.returns
returns c = check_says c.law_accepted_or_refused.ensures.refused
