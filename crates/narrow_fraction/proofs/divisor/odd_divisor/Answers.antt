use Rattle.std.proofs.Common.{◌≡◌, ◌%◌, ◌∙◌, sym, ap, arith}
use Rattle.rational_theory.specs.Gcd.{gcd}
use Rattle.rational_theory.proofs.Fractions.{gcd-self}
use Rattle.narrow_fraction.proofs.Halves.{turned}
use Rattle.narrow_fraction.proofs.divisor.odd_divisor.Goals as goal

pub differences-preserved : goal.differences-preserved
differences-preserved c =
    let x = c.differences.x in
    let y = c.differences.y in
    let low : c.min-y.result % 2 ≡ 1 = let m = c.min-y.ensures in let i = c.differences.invariant in omega (arith, m, i.1, i.2) in (
      turned x y c.abs_diff-difference.result c.min-y.result c.odd_part-x.result _ (
        (λ l. (c.abs_diff-difference.ensures ∙ omega arith, c.min-y.ensures ∙ omega arith)),
        (λ l. (c.abs_diff-difference.ensures ∙ omega arith, c.min-y.ensures ∙ omega arith)),
      ) low c.odd_part-x.ensures.power ∙ c.differences.invariant.0,
      c.odd_part-x.ensures.odd,
      low,
    )

pub returns : goal.returns
returns c = sym (gcd-self c.differences.x) ∙ ap (gcd c.differences.x) c.differences-test.false ∙ c.differences.invariant.0
