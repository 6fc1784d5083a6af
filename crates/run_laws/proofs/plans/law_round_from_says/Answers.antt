use Rattle.run_laws.proofs.PlanHeld.{round_from_says}
use Rattle.run_laws.proofs.plans.law_round_from_says.Goals as goal

pub returns : goal.returns
returns c = round_from_says c.law_accepted_or_refused.ensures.refused c.law_fails_rules_out.ensures
