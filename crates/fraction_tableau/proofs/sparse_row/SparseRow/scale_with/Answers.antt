use Rattle.std.proofs.Common.{arith}
use Rattle.std.proofs.lemmas.Grind.{common_steps}
use Rattle.fraction_tableau.proofs.sparse_row.SparseRow.scale_with.Goals as goal

pub returns : goal.returns
returns c = grind (arith, common_steps)
