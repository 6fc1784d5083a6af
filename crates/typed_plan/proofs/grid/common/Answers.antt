use Rattle.std.proofs.Common.{◌≡◌, ◌+◌, ◌<◌, ◌≤◌, ◌^◌, refl, sym, ◌∙◌, ap, ap₂, subst}
use Rattle.std.specs.Prelude.{Some}
use Rattle.std.proofs.lemmas.Result.{err_from_is_err_and}
use Rattle.rational_theory.specs.Gcd.{lcm}
use Rattle.typed_plan.specs.Grid.{told, how_many, common}
use Rattle.typed_plan.proofs.First.{none_next, first_at, told_small}
use Rattle.typed_plan.proofs.Shared.{common_above, common_next}
use Rattle.typed_plan.proofs.grid.common.Goals as goal

pub loop-place-init : goal.loop-place-init
unfolding common
loop-place-init c = record { value = refl; above = c.requires.above; small = c.requires.small; none = refl }

pub returns-in_err-ticks-clause-first : goal.returns-in_err-ticks-clause-first
returns-in_err-ticks-clause-first c =
    let a = c.args.artery.now in let p = c.args.plan.now in let k = c.loop-place.place in
    let f = common a p c.args.times c.args.start in
    let next : c.joined.result ≡ told (f (k + 1)) = c.joined.ensures ∙ ap told (ap₂ (λ t x. lcm t x.den) c.loop-place.invariant.value c.time.ensures.value
    ∙ sym (common_next a p c.args.times c.args.start k)) in
    let is : c.in_err-ticks.field-0.0 ≡ told (f (k + 1)) = c.in_err-ticks.ensures.large.0 ∙ next in
    let below : k < how_many a c.args.times = subst (λ n. k < n) c.how_many-place-end.ensures.value c.loop-place-test.true in
    let q = err_from_is_err_and c.from_residual.result c.from_residual.ensures.1 in
    rw (q.1, q.2) (first_at (how_many a c.args.times) k (λ n. told (f n)) below c.loop-place.invariant.none (subst (λ n. 2 ^ 80 ≤ n) is c.in_err-ticks.ensures.large.1) ∙ ap Some (sym is))

pub loop-place-preserved : goal.loop-place-preserved
loop-place-preserved c =
    let a = c.args.artery.now in let p = c.args.plan.now in let k = c.loop-place.place in
    let f = common a p c.args.times c.args.start in
    let next : c.joined.result ≡ told (f (k + 1)) = c.joined.ensures ∙ ap told (ap₂ (λ t x. lcm t x.den) c.loop-place.invariant.value c.time.ensures.value
    ∙ sym (common_next a p c.args.times c.args.start k)) in
    let as_told : c.in_ok-ticks.ticks ≡ told (f (k + 1)) = c.in_ok-ticks.ensures.held.0 ∙ next in
    let small : told (f (k + 1)) < 2 ^ 80 = subst (λ n. n < 2 ^ 80) as_told c.in_ok-ticks.ensures.held.1 in
    let is : c.in_ok-ticks.ticks ≡ f (k + 1) = as_told ∙ told_small (f (k + 1)) small in
    record {
      value = is;
      above = subst (λ n. 1 ≤ n) (sym is) (common_above a p c.args.times c.args.start c.requires.above (k + 1));
      small = c.in_ok-ticks.ensures.held.1;
      none = none_next k (λ n. told (f n)) c.loop-place.invariant.none small;
    }
