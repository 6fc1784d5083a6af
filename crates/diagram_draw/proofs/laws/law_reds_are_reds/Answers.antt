use Rattle.diagram_draw.proofs.Members.{reds_are_reds}
use Rattle.diagram_draw.proofs.laws.law_reds_are_reds.Goals as goal

pub returns : goal.returns
returns c f a t title s h red = reds_are_reds f a t title s h red
