use Rattle.run_laws.proofs.Says.{links_stop_says}
use Rattle.run_laws.proofs.stops.law_links_stop_says.Goals as goal

pub returns : goal.returns
returns c = links_stop_says
