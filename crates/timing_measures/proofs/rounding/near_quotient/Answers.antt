use Rattle.std.proofs.Common.{◌≡◌, ◌+◌, ◌*◌, ◌/◌, ◌%◌, ◌^◌, ap, sym, ◌∙◌, arith}
use Rattle.timing_measures.specs.Rounding.{nearest_parts}
use Rattle.timing_measures.proofs.Nearest.{nearest_rest}
use Rattle.timing_measures.proofs.rounding.near_quotient.Goals as goal

pub returns-in_default-clause-whole : goal.returns-in_default-clause-whole
returns-in_default-clause-whole c =
    let three : c.args.places ≡ 3 = omega (arith, c.requires.some_places, c.requires.most_places, c.in_default.in_default-own) in
    let whole = c.args.top / c.args.bottom in
    c.with_parts-in_default.ensures.whole
    ∙ ap (λ n. (1000 * whole + n) / 1000) c.near_thousandths.ensures.value
    ∙ ap (λ n. n / 1000) (sym (nearest_rest c.args.top c.args.bottom 1000 c.requires.some))
    ∙ ap (λ p. nearest_parts c.args.top c.args.bottom (10 ^ p) / 10 ^ p) (sym three)

pub returns-in_default-clause-rest : goal.returns-in_default-clause-rest
returns-in_default-clause-rest c =
    let three : c.args.places ≡ 3 = omega (arith, c.requires.some_places, c.requires.most_places, c.in_default.in_default-own) in
    let whole = c.args.top / c.args.bottom in
    c.with_parts-in_default.ensures.rest
    ∙ ap (λ n. (1000 * whole + n) % 1000) c.near_thousandths.ensures.value
    ∙ ap (λ n. n % 1000) (sym (nearest_rest c.args.top c.args.bottom 1000 c.requires.some))
    ∙ ap (λ p. nearest_parts c.args.top c.args.bottom (10 ^ p) % 10 ^ p) (sym three)
