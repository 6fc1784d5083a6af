use Rattle.std.proofs.Common.{lit<, lit≤}
use Rattle.artery_model.proofs.Quotients.{over_positive}
use Rattle.speed_steps.proofs.Numbers.{small_step}
use Rattle.speed_steps.proofs.steps.step.Goals as goal

pub returns-in-Metric-eq0-clause-small : goal.returns-in-Metric-eq0-clause-small
returns-in-Metric-eq0-clause-small c =
    small_step c.reduced.result 1 10 c.reduced.ensures.value
    (over_positive 1 10 (lit< tt) (lit< tt))
    c.reduced.ensures.num c.reduced.ensures.den (lit≤ tt) (lit≤ tt)

pub returns-in-Metric-eq1-clause-small : goal.returns-in-Metric-eq1-clause-small
returns-in-Metric-eq1-clause-small c =
    small_step c.reduced-in-Metric-eq1.result 9 25 c.reduced-in-Metric-eq1.ensures.value
    (over_positive 9 25 (lit< tt) (lit< tt))
    c.reduced-in-Metric-eq1.ensures.num c.reduced-in-Metric-eq1.ensures.den (lit≤ tt) (lit≤ tt)

pub returns-in-Metric-default-clause-small : goal.returns-in-Metric-default-clause-small
returns-in-Metric-default-clause-small c =
    small_step c.reduced-in-Metric-default.result 18 5 c.reduced-in-Metric-default.ensures.value
    (over_positive 18 5 (lit< tt) (lit< tt))
    c.reduced-in-Metric-default.ensures.num c.reduced-in-Metric-default.ensures.den (lit≤ tt) (lit≤ tt)

pub returns-in-English-eq0-clause-small : goal.returns-in-English-eq0-clause-small
returns-in-English-eq0-clause-small c =
    small_step c.reduced-in-English-eq0.result 3 44 c.reduced-in-English-eq0.ensures.value
    (over_positive 3 44 (lit< tt) (lit< tt))
    c.reduced-in-English-eq0.ensures.num c.reduced-in-English-eq0.ensures.den (lit≤ tt) (lit≤ tt)

pub returns-in-English-eq1-clause-small : goal.returns-in-English-eq1-clause-small
returns-in-English-eq1-clause-small c =
    small_step c.reduced-in-English-eq1.result 3 22 c.reduced-in-English-eq1.ensures.value
    (over_positive 3 22 (lit< tt) (lit< tt))
    c.reduced-in-English-eq1.ensures.num c.reduced-in-English-eq1.ensures.den (lit≤ tt) (lit≤ tt)

pub returns-in-English-default-clause-small : goal.returns-in-English-default-clause-small
returns-in-English-default-clause-small c =
    small_step c.reduced-in-English-default.result 15 22 c.reduced-in-English-default.ensures.value
    (over_positive 15 22 (lit< tt) (lit< tt))
    c.reduced-in-English-default.ensures.num c.reduced-in-English-default.ensures.den (lit≤ tt) (lit≤ tt)
