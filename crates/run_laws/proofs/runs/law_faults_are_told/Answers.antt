use Rattle.run_laws.proofs.Complete.{faults_are_told}
use Rattle.run_laws.proofs.runs.law_faults_are_told.Goals as goal

pub returns : goal.returns
returns c = faults_are_told
