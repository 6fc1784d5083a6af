use Rattle.plan_text.proofs.OneText.{one_text}
use Rattle.plan_text.proofs.laws.law_one_text.Goals as goal

pub returns : goal.returns
returns c = one_text
