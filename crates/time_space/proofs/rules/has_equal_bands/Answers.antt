use Rattle.std.proofs.Common.{rules}
use Rattle.time_space.proofs.rules.has_equal_bands.Goals as goal

pub returns-else-not-equal : goal.returns-else-not-equal
returns-else-not-equal c = search rules
