use Rattle.time_space.proofs.FinerGrids.{finer_law}
use Rattle.time_space.proofs.rules.law_finer_grids.Goals as goal

pub returns : goal.returns
returns c a t m h u q = finer_law a t m h u q
