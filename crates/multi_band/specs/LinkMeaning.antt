-- What an outcome says of a vertex of links, in the model's words. Where it splits its box is said as of a vertex of the artery.
use Rattle.std.specs.Prelude.{List}
use Rattle.rational_theory.specs.Rational.{ℚ}
use Rattle.progression.specs.Street.{Street}
use Rattle.link_theory.specs.LinkRecord.{LinkRecord}
use Rattle.link_theory.specs.LinkVertices.{IsLinkVertex, link_timing_of}
use Rattle.offset_recovery.specs.Meaning.{GivesBy, OutcomesSay}
use Rattle.multi_band.specs.LinkRecovered.{link_number_tests, link_recovered}

-- all block sums are whole, all shifts are the signals', and every number fits
abbrev pub GivesLinkTiming : Street → List ℚ → LinkRecord → Type 0
GivesLinkTiming a x t = GivesBy a x (link_number_tests a x) (link_timing_of a x) t

abbrev pub LinkOutcomesMean : Type 0
LinkOutcomesMean = OutcomesSay IsLinkVertex link_recovered GivesLinkTiming
