use Rattle.std.proofs.Common.{rules}
use Rattle.half_integer.proofs.build.first_in.Goals as goal

pub returns-clause-value : goal.returns-clause-value
returns-clause-value c = search rules
