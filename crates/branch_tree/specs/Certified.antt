-- The certificate of what a search of an artery found.
use Rattle.std.specs.Prelude.{option_map, Option}
use Rattle.rational_theory.specs.Rational.{ℚ}
use Rattle.progression.specs.Street.{Street}
use Rattle.progression.specs.TimingRecord.{TimingRecord}
use Rattle.progression.specs.Best.{weighted_band}
use Rattle.certificate_model.specs.Warrants.{Warrant}
use Rattle.branch_tree.specs.Told.{Found}
use Rattle.box_search.specs.Certified.{warrant_by}

abbrev pub value_of : Street → Option TimingRecord → Option ℚ
value_of a = option_map (weighted_band a)

abbrev pub warrant_of : Street → Found → Warrant
warrant_of a = warrant_by (weighted_band a)
