use Rattle.std.proofs.Common.{arith}
use Rattle.fraction_tableau.proofs.Copies.{all_copied}
use Rattle.fraction_tableau.proofs.exchanging.copy_rows.Goals as goal

pub returns : goal.returns
returns c = all_copied _ _ _ _ c.requires.count c.loop-index.invariant (omega arith)
