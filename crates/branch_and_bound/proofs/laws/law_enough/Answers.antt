use Rattle.branch_and_bound.proofs.Counting.{enough}
use Rattle.branch_and_bound.proofs.laws.law_enough.Goals as goal

pub returns : goal.returns
returns g c = enough (g.P.Relaxation.rules c.args._relaxation.now)
