use Rattle.std.proofs.Common.{◌≡◌, pos, ◌≤ℤ◌, ◌+◌, ◌*◌, ◌<◌, ◌^◌, ap, sym, ◌∙◌, subst, arith, mul-pos}
use Rattle.std.specs.Int.{w128}
use Rattle.std.proofs.lemmas.Int.{to_z_pos}
use Rattle.rational_theory.specs.Rational.{ℚ, over}
use Rattle.time_space.proofs.Quotients.{weighted, over_least, widths_fit, cycle_size}
use Rattle.time_space.proofs.weight.weighted.Goals as goal

-- the sum of the widths fits
fit : (c : goal.After-denominator-den) → c.denominator-den.result * c.args.out + c.numerator-num.result * c.args.back < 2 ^ 127
fit c = widths_fit c.denominator-den.result c.numerator-num.result c.args.out c.args.back c.denominator-den.ensures.most c.numerator-num.ensures.most c.requires.out c.requires.back

pub overflow_mul-widths : goal.overflow_mul-widths
overflow_mul-widths c = record { fits = omega (arith, fit c) }

pub overflow_mul-widths-2 : goal.overflow_mul-widths-2
overflow_mul-widths-2 c = record { fits = omega (arith, fit c) }

pub overflow_add-widths : goal.overflow_add-widths
overflow_add-widths c = record { fits = omega (arith, fit c) }

pub overflow_cast-widths : goal.overflow_cast-widths
overflow_cast-widths c = record { sfits = fit c }

pub reduced-requires : goal.reduced-requires
reduced-requires c =
    let w = fit c in
    record {
      above = mul-pos c.denominator-den.ensures.least c.requires.cycle;
      top = simp (to_z_pos, w) w;
      bottom = omega (arith, cycle_size c.denominator-den.result c.args.cycle c.denominator-den.ensures.most c.requires.size);
    }

-- the quotient of what fits
quotient : (c : goal.After-reduced) → c.reduced.result ≡ over (pos (c.denominator-den.result * c.args.out + c.numerator-num.result * c.args.back)) (c.denominator-den.result * c.args.cycle)
quotient c =
    let fits = widths_fit c.denominator-den.result c.numerator-num.result c.args.out c.args.back c.denominator-den.ensures.most c.numerator-num.ensures.most c.requires.out c.requires.back in
    c.reduced.ensures.value ∙ ap (λ z. over z (c.denominator-den.result * c.args.cycle)) (to_z_pos w128 _ fits)

pub returns-clause-value : goal.returns-clause-value
returns-clause-value c =
    quotient c
    ∙ weighted c.args.ratio c.numerator-num.result c.denominator-den.result c.args.out c.args.back c.args.cycle c.numerator-num.ensures.value c.denominator-den.ensures.value c.requires.cycle

pub returns-clause-least : goal.returns-clause-least
returns-clause-least c = subst (λ (q : ℚ). pos 0 ≤ℤ q.num) (sym (quotient c)) (over_least _ _)

pub returns-clause-denominator : goal.returns-clause-denominator
returns-clause-denominator c = omega (arith, c.reduced.ensures.den, cycle_size c.denominator-den.result c.args.cycle c.denominator-den.ensures.most c.requires.size)
