use Rattle.std.proofs.Common.{◌∙◌, subst, pos, SFits, arith}
use Rattle.std.specs.Int.{w64}
use Rattle.std.proofs.lemmas.Int.{ints, to_z-of_z}
use Rattle.rational_theory.specs.Rational.{ℚ, whole, ◌<ℚ◌}
use Rattle.narrow_fraction.proofs.Ratios.{ratio_order, ratio_fits}
use Rattle.narrow_fraction.proofs.Quotients.{below_by_numerator}
use Rattle.narrow_fraction.proofs.quotient.Quotient.ratio_order.Goals as goal

pub returns : goal.returns
returns c =
    let u = c.in_ok-under.ensures.above in
    let v = c.either_below-above.ensures in
    let p = c.in_ok-own.ensures in
    let q = c.in_ok-others.ensures in
    let a = c.in_ok-top.ensures in
    let b = c.in_ok-other_top.ensures in
    let i : SFits w64 c.in_ok-own.own = search in
    let j : SFits w64 c.in_ok-others.others = search in
    let k : SFits w64 c.in_ok-top.top = search in
    let l : SFits w64 c.in_ok-other_top.other_top = search in
    let o = simp (to_z-of_z, i, j, k, l) at c.compare_products.ensures in
    let m = below_by_numerator c.in_ok-own.own c.in_ok-under.under u (subst (λ (t : ℚ). t <ℚ whole (pos 0)) p c.requires.bottom) in
    let n = below_by_numerator c.in_ok-others.others c.in_ok-under.under u (subst (λ (t : ℚ). t <ℚ whole (pos 0)) q c.requires.other) in
    record {
      order = rw (p, q, a, b) (o ∙ ratio_order c.in_ok-top.top c.in_ok-other_top.other_top c.in_ok-own.own c.in_ok-others.others c.either_below-above.result c.in_ok-under.under v u m n);
      fits = rw (p, a) (ratio_fits c.in_ok-top.top c.in_ok-own.own c.either_below-above.result c.in_ok-under.under v u m (omega (arith, ints))
          (omega (arith, ints)) c.either_below-above.type_inv c.in_ok-under.ensures.word);
    }
