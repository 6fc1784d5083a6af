use Rattle.std.proofs.Common.{◌%◌}
use Rattle.fraction_tableau.proofs.Marking.{bit_clear}
use Rattle.fraction_tableau.proofs.marks.is_free.Goals as goal

pub returns : goal.returns
returns c = bit_clear c.args.marks (c.args.place % 64)
