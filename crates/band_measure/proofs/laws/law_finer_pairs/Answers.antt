use Rattle.band_measure.proofs.AllGrids.{finer_pairs}
use Rattle.band_measure.proofs.laws.law_finer_pairs.Goals as goal

pub returns : goal.returns
returns c = finer_pairs
