use Rattle.time_space.proofs.Intervals.{reds_law}
use Rattle.time_space.proofs.rules.law_reds_are_intervals.Goals as goal

pub returns : goal.returns
returns c cycle start red tick h l = reds_law cycle start red tick h l
