use Rattle.std.proofs.Common.{arith}
use Rattle.time_space.proofs.Firsts.{first_inbound}
use Rattle.time_space.proofs.rules.check_inbound.Goals as goal

pub returns-in-Some : goal.returns-in-Some
returns-in-Some c = grind (arith, first_inbound)
