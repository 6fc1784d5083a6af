use Rattle.std.proofs.Common.{sym, ◌∙◌}
use Rattle.fraction_tableau.proofs.Merges.{inverse_some}
use Rattle.fraction_tableau.proofs.sparse_row.SparseRow.clear_either.Goals as goal

pub clear_narrow-requires-clause-own : goal.clear_narrow-requires-clause-own
clear_narrow-requires-clause-own c = λ z. inverse_some c.args.elimination.now.pivot c.requires.pivot (sym c.requires.own ∙ z)
