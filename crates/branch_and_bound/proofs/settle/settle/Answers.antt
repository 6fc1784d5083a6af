use Rattle.std.proofs.Common.{arith}
use Rattle.branch_and_bound.proofs.Settling.{timed_settles}
use Rattle.std.proofs.lemmas.Grind.{common_steps}
use Rattle.branch_and_bound.proofs.settle.settle.Goals as goal

pub returns-in-Timed-clause-settles : goal.returns-in-Timed-clause-settles
returns-in-Timed-clause-settles g c = λ line before e h.
    let k = rw c.in-Timed.is at h in
    (timed_settles (g.P.Relaxation.rules c.args._relaxation.now) line _ _ _ _ _ k.0 c.improve.ensures, k.1)

pub returns-in-Infeasible : goal.returns-in-Infeasible
returns-in-Infeasible g c = grind (arith, common_steps)

pub returns-in-Splits : goal.returns-in-Splits
returns-in-Splits g c = grind (arith, common_steps)

pub returns-in-WorkOut : goal.returns-in-WorkOut
returns-in-WorkOut g c = grind (arith, common_steps)

pub returns-in-Wide : goal.returns-in-Wide
returns-in-Wide g c = grind (arith, common_steps)
