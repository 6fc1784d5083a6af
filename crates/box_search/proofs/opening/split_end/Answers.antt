use Rattle.std.proofs.Common.{refl}
use Rattle.box_search.proofs.opening.split_end.Goals as goal

pub returns : goal.returns
returns g c = (c.in_ok-kept.kept, refl, c.in_ok-kept.ensures)
