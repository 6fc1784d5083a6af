use Rattle.std.proofs.Common.{arith}
use Rattle.std.proofs.lemmas.Grind.{elements}
use Rattle.loop_rows.proofs.families.ArteryFamilyFamily.fill.Goals as goal

pub returns-in-LoopHighRow-clause-row : goal.returns-in-LoopHighRow-clause-row
returns-in-LoopHighRow-clause-row c = grind (arith, elements)

pub returns-in-LeastRow-clause-row : goal.returns-in-LeastRow-clause-row
returns-in-LeastRow-clause-row c = grind (arith, elements)
