use Rattle.plan_text.proofs.FirstBads.{first_bad}
use Rattle.plan_text.proofs.laws.law_first_bad.Goals as goal

pub returns : goal.returns
returns c = first_bad
