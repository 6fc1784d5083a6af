use Rattle.std.proofs.Common.{◌∙◌}
use Rattle.speed_steps.proofs.Numbers.{shorter_is}
use Rattle.speed_steps.proofs.steps.shorter.Goals as goal

pub returns-clause-value : goal.returns-clause-value
returns-clause-value c =
    c.run_of.ensures.value
    ∙ rw (c.numerator.ensures, c.denominator.ensures, c.denominator-2.ensures, c.numerator-2.ensures) (shorter_is c.args.run c.args.step c.requires.run.least c.requires.step.least)
