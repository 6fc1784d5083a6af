use Rattle.run_laws.proofs.Unlimited.{unlimited}
use Rattle.run_laws.proofs.stops.law_all_never_stops_by_work.Goals as goal

pub returns : goal.returns
returns c = unlimited
