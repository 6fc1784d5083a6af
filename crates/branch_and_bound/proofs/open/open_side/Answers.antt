use Rattle.std.proofs.Common.{sym, subst, arith}
use Rattle.branch_and_bound.specs.State.{Settles}
use Rattle.branch_and_bound.proofs.Settling.{ends}
use Rattle.std.proofs.lemmas.Grind.{common_steps}
use Rattle.branch_and_bound.proofs.open.open_side.Goals as goal

pub returns-clause-ends : goal.returns-clause-ends
returns-clause-ends g c = λ parent line place part.
    let r = g.P.Relaxation.rules c.args.relaxation.now in
    let old = c.args.progress.now in
    let new = c.settle.new.progress in
    let settled = c.settle.ensures.settles line old.meter part.area_is (c.in_ok-opened.ensures.opens parent line place part) in
    let now = subst (λ m. Settles r line old.incumbent new.incumbent old.meter m c.settle.result) (sym c.settle.ensures.meter) settled in
    rw c.end_of.ensures (ends r line old new c.settle.result now)

pub returns-then-is_out : goal.returns-then-is_out
returns-then-is_out g c = grind (arith, common_steps)
