use Rattle.run_laws.proofs.Says.{links_say}
use Rattle.run_laws.proofs.runs.law_links_say.Goals as goal

pub returns : goal.returns
returns c = links_say
