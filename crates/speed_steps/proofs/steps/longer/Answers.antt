use Rattle.std.proofs.Common.{◌∙◌, ◌<◌, arith, mul-pos}
use Rattle.std.proofs.lemmas.Int.{ints}
use Rattle.speed_steps.proofs.Numbers.{longer_is}
use Rattle.speed_steps.proofs.steps.longer.Goals as goal

pub returns-clause-value : goal.returns-clause-value
returns-clause-value c =
    c.run_of.ensures.value
    ∙ rw (c.numerator.ensures, c.denominator.ensures, c.denominator-2.ensures, c.numerator-2.ensures) (longer_is c.args.run c.args.step c.requires.run.least c.requires.step.least)

pub overflow_sub-top : goal.overflow_sub-top
overflow_sub-top c =
    let long : 0 < c.denominator-2.result = rw c.denominator-2.ensures c.args.run.positive in
    let least = c.requires.step.least in
    let some : 0 < c.numerator-2.result = rw c.numerator-2.ensures (omega (arith, ints, least)) in
    omega (arith, mul-pos long some)
