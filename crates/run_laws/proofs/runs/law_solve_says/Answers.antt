use Rattle.run_laws.proofs.Says.{solve_says}
use Rattle.run_laws.proofs.runs.law_solve_says.Goals as goal

pub returns : goal.returns
returns c = solve_says
