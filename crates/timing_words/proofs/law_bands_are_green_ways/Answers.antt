use Rattle.timing_words.proofs.GreenWays.{green_ways}
use Rattle.timing_words.proofs.law_bands_are_green_ways.Goals as goal

pub returns : goal.returns
returns c a t d = green_ways a t d
