use Rattle.std.proofs.Common.{◌≡◌, ◌+◌, ◌-◌, ◌<◌, ◌≤◌, ◌^◌, sym, ◌∙◌, ap, subst, arith}
use Rattle.std.specs.Prelude.{Some}
use Rattle.std.proofs.lemmas.Result.{err_from_is_err_and}
use Rattle.progression.specs.Street.{count}
use Rattle.typed_plan.specs.Grid.{size}
use Rattle.typed_plan.specs.declared.times.Times.TheVariants.{Run}
use Rattle.typed_plan.proofs.First.{none_next, first_at}
use Rattle.typed_plan.proofs.grid.check_runs.Goals as goal

pub returns-in_err-held-clause-first : goal.returns-in_err-held-clause-first
returns-in_err-held-clause-first c =
    let a = c.args.artery.now in let p = c.args.plan.now in let k = c.loop-place.place in
    let f = size a p (Run c.args.dir) in
    let is : c.in_err-held.field-0.0 ≡ f (k + 1) = c.in_err-held.ensures.large.0 ∙ c.size-ticks.ensures.value in
    let end = c.count-place-end.ensures.value in
    let below : k < count a - 1 = let t = c.loop-place-test.true in omega (arith, t, end) in
    let q = err_from_is_err_and c.from_residual.result c.from_residual.ensures.1 in
    rw (q.1, q.2) (first_at (count a - 1) k f below c.loop-place.invariant (subst (λ n. 2 ^ 80 ≤ n) is c.in_err-held.ensures.large.1) ∙ ap Some (sym is))

pub loop-place-preserved : goal.loop-place-preserved
loop-place-preserved c =
    let a = c.args.artery.now in let p = c.args.plan.now in let k = c.loop-place.place in
    let is = c.in_ok-held.ensures.held.0 ∙ c.size-ticks.ensures.value in
    none_next k (size a p (Run c.args.dir)) c.loop-place.invariant (subst (λ n. n < 2 ^ 80) is c.in_ok-held.ensures.held.1)
