use Rattle.link_space.proofs.FinerLinkGrids.{finer_link_grids}
use Rattle.link_space.proofs.rules.law_finer_link_grids.Goals as goal

pub returns : goal.returns
returns c = finer_link_grids
