use Rattle.time_space.proofs.OnlyFirst.{one_first}
use Rattle.time_space.proofs.rules.law_one_first.Goals as goal

pub returns : goal.returns
returns c = one_first
