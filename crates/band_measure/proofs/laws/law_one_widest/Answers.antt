use Rattle.band_measure.proofs.AllGrids.{one_widest}
use Rattle.band_measure.proofs.laws.law_one_widest.Goals as goal

pub returns : goal.returns
returns c = one_widest
