use Rattle.std.proofs.Common.{pos, ◌+◌, ap}
use Rattle.diagram_draw.proofs.captions.row_level.Goals as goal

pub returns : goal.returns
returns c = ap (λ l. pos (l + 50)) c.level.ensures.value
