use Rattle.diagram_draw.proofs.Beside.{pieces_miss_bars}
use Rattle.diagram_draw.proofs.laws.law_pieces_miss_bars.Goals as goal

pub returns : goal.returns
returns c f a d e l i h v there here = pieces_miss_bars f a d e l i h v there here
