use Rattle.run_laws.proofs.PlanHeld.{plan_held}
use Rattle.run_laws.proofs.plans.law_plan_is_held.Goals as goal

pub returns : goal.returns
returns c = plan_held (record { street = c.law_one_answer.ensures; plan = c.law_one_typed.ensures }) c.law_fails_rules_out.ensures
