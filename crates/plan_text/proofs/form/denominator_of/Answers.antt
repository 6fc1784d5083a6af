use Rattle.std.proofs.Common.{◌≡◌, ◌<◌, ◌^◌, ◌+◌, ℕ, sym, ◌∙◌, ap, subst, arith, drop}
use Rattle.std.specs.Prelude.{SomeIff, Option}
use Rattle.rational_theory.specs.Gcd.{lcm}
use Rattle.rational_theory.proofs.Multiples.{lcm_above}
use Rattle.plan_text.specs.Leaves.{denominator_of, denominator_from}
use Rattle.plan_text.proofs.Denominators.{denominator_least, denominator_next, denominator_passed}
use Rattle.plan_text.proofs.form.denominator_of.Goals as goal

pub returns-in_err-denominator : goal.returns-in_err-denominator
returns-in_err-denominator c =
    let ws = c.args.weights.now in
    let i = c.loop-weight.weight-index in
    let next : lcm c.loop-weight.denominator c.bottom.result ≡ lcm c.loop-weight.denominator c.weight-item.result.by.den = ap (λ n. lcm c.loop-weight.denominator n) c.bottom.ensures.value in
    let whole = c.loop-weight.invariant.rest ∙ denominator_next c.loop-weight.denominator ws i _ c.weight-item.result c.loop-weight-test.true c.weight-item.is in
    let least = denominator_least (lcm c.loop-weight.denominator c.weight-item.result.by.den) (drop (i + 1) ws)
    (lcm_above c.loop-weight.denominator c.weight-item.result.by.den c.loop-weight.invariant.above c.weight-item.result.by.positive) in
    subst (λ (r : Option ℕ). SomeIff r (denominator_of ws < 2 ^ 127) (denominator_of ws)) (sym c.from_residual.ensures)
    (λ below. c.in_err-denominator.ensures (omega (arith, next, whole, least, below)))

pub loop-weight-preserved : goal.loop-weight-preserved
loop-weight-preserved c =
    let ws = c.args.weights.now in
    let i = c.loop-weight.weight-index in
    let next = ap (λ n. lcm c.loop-weight.denominator n) c.bottom.ensures.value in
    let is : c.in_ok-denominator.denominator ≡ lcm c.loop-weight.denominator c.weight-item.result.by.den = c.in_ok-denominator.ensures.1 ∙ next in
    record {
      above = subst (λ n. 0 < n) (sym is) (lcm_above c.loop-weight.denominator c.weight-item.result.by.den c.loop-weight.invariant.above c.weight-item.result.by.positive);
      small = omega (arith, c.in_ok-denominator.ensures);
      rest = c.loop-weight.invariant.rest ∙ denominator_next c.loop-weight.denominator ws i _ c.weight-item.result c.loop-weight-test.true c.weight-item.is
          ∙ ap (λ n. denominator_from n (drop (i + 1) ws)) (sym is);
    }

pub returns : goal.returns
returns c =
    let all = c.loop-weight.invariant.rest ∙ denominator_passed c.loop-weight.denominator c.args.weights.now c.loop-weight.weight-index c.loop-weight-test.false in
    (omega (arith, all, c.loop-weight.invariant.small), sym all)
