use Rattle.diagram_draw.proofs.Passing.{pieces_are_seen}
use Rattle.diagram_draw.proofs.laws.law_pieces_are_seen.Goals as goal

pub returns : goal.returns
returns c f a t d l part h drawn = pieces_are_seen f a t d l part h drawn
