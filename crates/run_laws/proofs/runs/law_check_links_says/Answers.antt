use Rattle.run_laws.proofs.Says.{check_links_says}
use Rattle.run_laws.proofs.runs.law_check_links_says.Goals as goal

pub returns : goal.returns
returns c = check_links_says c.law_link_accepted_or_refused.ensures.refused
