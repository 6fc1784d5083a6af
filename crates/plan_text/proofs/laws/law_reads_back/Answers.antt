use Rattle.plan_text.proofs.OneText.{reads_back}
use Rattle.plan_text.proofs.laws.law_reads_back.Goals as goal

pub returns : goal.returns
returns c = reads_back
