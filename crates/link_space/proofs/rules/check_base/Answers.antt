use Rattle.std.proofs.Common.{arith}
use Rattle.link_space.proofs.LinkFirsts.{after_base, first_base}
use Rattle.link_space.proofs.rules.check_base.Goals as goal

pub returns-in-Ok : goal.returns-in-Ok
returns-in-Ok c = grind (arith, after_base, first_base)

pub returns-in-Err : goal.returns-in-Err
returns-in-Err c = grind (arith, after_base, first_base)
