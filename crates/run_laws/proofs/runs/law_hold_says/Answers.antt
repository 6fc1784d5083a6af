use Rattle.run_laws.proofs.Says.{hold_says}
use Rattle.run_laws.proofs.runs.law_hold_says.Goals as goal

pub returns : goal.returns
returns c = hold_says c.law_fails_rules_out.ensures
