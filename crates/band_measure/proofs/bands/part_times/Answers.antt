use Rattle.std.proofs.Common.{arith}
use Rattle.band_measure.proofs.Parts.{times_part}
use Rattle.band_measure.proofs.bands.part_times.Goals as goal

pub returns : goal.returns
returns c = grind (arith, times_part)
