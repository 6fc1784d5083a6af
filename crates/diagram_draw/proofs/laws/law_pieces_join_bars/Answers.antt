use Rattle.diagram_draw.proofs.Beside.{pieces_join_bars}
use Rattle.diagram_draw.proofs.laws.law_pieces_join_bars.Goals as goal

pub returns : goal.returns
returns c f a d l = pieces_join_bars f a d l
