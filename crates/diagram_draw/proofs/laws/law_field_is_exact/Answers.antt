use Rattle.diagram_draw.proofs.Members.{field_is_exact}
use Rattle.diagram_draw.proofs.laws.law_field_is_exact.Goals as goal

pub returns : goal.returns
returns c f a t title s = field_is_exact f a t title s
