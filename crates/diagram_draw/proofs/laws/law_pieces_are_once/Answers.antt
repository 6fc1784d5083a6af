use Rattle.diagram_draw.proofs.Passing.{pieces_are_once}
use Rattle.diagram_draw.proofs.laws.law_pieces_are_once.Goals as goal

pub returns : goal.returns
returns o f a t d l e g m n h c k same = pieces_are_once f a t d l e g m n h c k same
