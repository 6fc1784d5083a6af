use Rattle.diagram_draw.proofs.Passing.{bands_are_shown}
use Rattle.diagram_draw.proofs.laws.law_bands_are_shown.Goals as goal

pub returns : goal.returns
returns c f a t d l n h e v u there g w = bands_are_shown f a t d l n h e v u there g w
