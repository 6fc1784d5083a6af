use Rattle.std.proofs.Common.{◌<◌, ◌^◌, sym, subst, arith}
use Rattle.rational_theory.proofs.Multiples.{lcm_above}
use Rattle.fraction_tableau.proofs.narrowing.common_denominator.Goals as goal

pub loop-index-init : goal.loop-index-init
loop-index-init c =
    let x = c.fraction.result in
    let e = c.in_ok-common.ensures in
    record {
      above = subst (λ n. 0 < n) (sym e.1) (lcm_above 1 x.den (omega arith) x.positive);
      short = subst (λ n. n < 2 ^ 42) (sym e.1) e.0;
    }

pub loop-index-preserved : goal.loop-index-preserved
loop-index-preserved c =
    let x = c.fraction-in-loop-index.result in
    let e = c.in-Some.ensures in
    record {
      above = subst (λ n. 0 < n) (sym e.1) (lcm_above c.loop-index.common x.den c.loop-index.invariant.above x.positive);
      short = subst (λ n. n < 2 ^ 42) (sym e.1) e.0;
    }
