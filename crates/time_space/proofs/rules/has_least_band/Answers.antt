use Rattle.std.proofs.Common.{rules}
use Rattle.time_space.proofs.rules.has_least_band.Goals as goal

pub returns : goal.returns
returns c = search rules
