use Rattle.std.proofs.Common.{rules}
use Rattle.diagram_draw.proofs.bars.first_red.Goals as goal

pub returns-clause-value : goal.returns-clause-value
returns-clause-value c = search rules
