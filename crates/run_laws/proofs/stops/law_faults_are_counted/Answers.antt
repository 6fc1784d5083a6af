use Rattle.run_laws.proofs.Statuses.{faults_are_counted}
use Rattle.run_laws.proofs.stops.law_faults_are_counted.Goals as goal

pub returns : goal.returns
returns c = faults_are_counted
