use Rattle.speed_steps.proofs.Timings.{runs_stay_near}
use Rattle.speed_steps.proofs.laws.law_runs_stay_near.Goals as goal

pub returns : goal.returns
returns c = runs_stay_near
