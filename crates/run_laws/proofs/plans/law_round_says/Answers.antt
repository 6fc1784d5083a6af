use Rattle.run_laws.proofs.PlanHeld.{round_says}
use Rattle.run_laws.proofs.plans.law_round_says.Goals as goal

pub returns : goal.returns
returns c = round_says c.law_accepted_or_refused.ensures.refused
