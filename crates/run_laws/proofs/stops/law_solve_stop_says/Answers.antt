use Rattle.run_laws.proofs.Says.{solve_stop_says}
use Rattle.run_laws.proofs.stops.law_solve_stop_says.Goals as goal

pub returns : goal.returns
returns c = solve_stop_says
