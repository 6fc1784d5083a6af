use Rattle.std.proofs.Common.{◌∙◌, subst, Some, IfOk, arith}
use Rattle.branch_and_bound.specs.Matchings.{Matches}
use Rattle.branch_and_bound.specs.State.{IsShown}
use Rattle.branch_and_bound.specs.Answer.{IsFound}
use Rattle.branch_and_bound.proofs.Halting.{undone_answer}
use Rattle.std.proofs.lemmas.Grind.{common_steps}
use Rattle.branch_and_bound.proofs.best_first.run.Goals as goal

pub splits-preserved : goal.splits-preserved
splits-preserved g c =
    let k = c.in-Ok.ensures.grows in
    record {
      ready = c.in-Ok.ensures.ready;
      within = k.within;
      limit = c.in-Ok.ensures.limit ∙ c.splits.invariant.limit;
      holds = (k.top, k.holds);
    }

pub returns-in-Err-Stopped : goal.returns-in-Err-Stopped
returns-in-Err-Stopped g c =
    let r = g.P.Relaxation.rules c.args.relaxation.now in
    let u = rw c.in-Err-Stopped.field-0-is at c.in-Err-Stopped.ensures.grows in
    let greatest = rw c.as_slice.ensures.value at c.in-Some.ensures.greatest in
    let shown = subst (λ ns. Matches (IsShown c.grow.new.progress.incumbent (Some c.in-Some.greatest.index)) 0 ns c.in_ok-tree-in-Err-Stopped.tree.items) u.same c.in_ok-tree-in-Err-Stopped.ensures in
    let answer = undone_answer r c.args.progress.meter.limit c.splits.nodes.items c.grow.new.nodes.items c.in_ok-tree-in-Err-Stopped.tree.items
    c.in-Some.greatest c.splits.progress c.grow.new.progress c.splits.invariant.holds.0 c.in-Err-Stopped.stop
    c.splits.invariant.holds.1 greatest c.in-Some.ensures.beaten shown u (c.in-Err-Stopped.ensures.limit ∙ c.splits.invariant.limit) in
    record {
      best = c.grow.new.progress.incumbent;
      timing = c.halt.ensures.timing;
      answer = rw (c.halt.ensures.nodes, c.halt.ensures.bound, c.halt.ensures.spent, c.halt.ensures.verdict) answer;
    }

pub grow-requires-clause-greatest : goal.grow-requires-clause-greatest
grow-requires-clause-greatest g c = rw c.as_slice.ensures.value at c.in-Some.ensures.greatest

pub finish-requires-clause-settled : goal.finish-requires-clause-settled
finish-requires-clause-settled g c = rw c.as_slice.ensures.value at c.in_default.ensures.none

pub returns : goal.returns
returns g c = subst (λ limit. IfOk c.finish.result (IsFound (g.P.Relaxation.rules c.args.relaxation.now) limit)) c.splits.invariant.limit c.finish.ensures

pub splits-smaller : goal.splits-smaller
splits-smaller g c = grind (arith, common_steps)
