use Rattle.run_laws.proofs.WholeSay.{whole_says}
use Rattle.run_laws.proofs.plans.law_whole_says.Goals as goal

pub returns : goal.returns
returns c = whole_says c.law_accepted_or_refused.ensures.refused
