use Rattle.std.proofs.Common.{arith}
use Rattle.std.proofs.lemmas.Grind.{elements}
use Rattle.half_integer.proofs.build.doubled.Goals as goal

pub returns-in_err-push_twice : goal.returns-in_err-push_twice
returns-in_err-push_twice c = grind (arith, elements)
