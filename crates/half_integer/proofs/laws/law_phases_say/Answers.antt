use Rattle.std.proofs.Common.{arith}
use Rattle.half_integer.proofs.Centred.{phases_say}
use Rattle.half_integer.proofs.laws.law_phases_say.Goals as goal

pub returns : goal.returns
returns c = grind (arith, phases_say)
