use Rattle.std.proofs.Common.{◌≡◌, ◌*◌, ◌∙◌, ap₂, pos, unsigned_abs, arith}
use Rattle.std.proofs.lemmas.Int.{ints}
use Rattle.rational_theory.specs.Rational.{over}
use Rattle.speed_steps.proofs.Numbers.{times_is}
use Rattle.speed_steps.proofs.steps.run_of.Goals as goal

pub returns-clause-value : goal.returns-clause-value
returns-clause-value c =
    c.share.ensures.value
    ∙ ap₂ (λ m n. over (pos (c.args.count * m)) n) c.numerator.ensures c.denominator.ensures
    ∙ times_is c.args.count c.args.step (let p = c.requires.step.least in omega (arith, ints, p))
