use Rattle.std.proofs.Common.{arith}
use Rattle.std.proofs.lemmas.Grind.{elements}
use Rattle.fraction_tableau.proofs.joining.Joining.scale.Goals as goal

pub returns : goal.returns
returns c = grind (arith, elements)
