use Rattle.std.proofs.Common.{rules}
use Rattle.certificate_checker.proofs.leaves.shown.Goals as goal

pub returns-in-None : goal.returns-in-None
returns-in-None c = search rules
