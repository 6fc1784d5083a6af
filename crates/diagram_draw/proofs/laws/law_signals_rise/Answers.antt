use Rattle.diagram_draw.proofs.Beside.{levels_apart}
use Rattle.diagram_draw.proofs.laws.law_signals_rise.Goals as goal

pub returns : goal.returns
returns c f a i j h v some up last = levels_apart f a i j h v some up last
