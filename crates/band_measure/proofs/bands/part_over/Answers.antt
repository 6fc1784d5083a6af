use Rattle.std.proofs.Common.{arith}
use Rattle.band_measure.proofs.Parts.{over_part}
use Rattle.band_measure.proofs.bands.part_over.Goals as goal

pub returns : goal.returns
returns c = grind (arith, over_part)
