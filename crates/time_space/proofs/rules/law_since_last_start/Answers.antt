use Rattle.time_space.proofs.Intervals.{since_law}
use Rattle.time_space.proofs.rules.law_since_last_start.Goals as goal

pub returns : goal.returns
returns c cycle start tick ago h = since_law cycle start tick ago h
