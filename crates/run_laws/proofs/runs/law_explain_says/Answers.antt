use Rattle.run_laws.proofs.ExplainSay.{explain_says}
use Rattle.run_laws.proofs.runs.law_explain_says.Goals as goal

pub returns : goal.returns
returns c = explain_says c.law_bounds_say.ensures c.law_warnings_say.ensures
