use Rattle.std.proofs.Common.{◌^◌}
use Rattle.limit_sensitivity.proofs.Fitting.{same_den}
use Rattle.limit_sensitivity.proofs.gains.without_minus.Goals as goal

pub returns-clause-denominator : goal.returns-clause-denominator
returns-clause-denominator c = same_den c.args.value c.neg.result (2 ^ 120) c.neg.ensures c.requires.denominator
