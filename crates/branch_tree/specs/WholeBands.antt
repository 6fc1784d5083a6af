-- The timings of an artery, with one band a direction, as a kind of timing that is sought.
use Rattle.progression.specs.Street.{Street}
use Rattle.progression.specs.Best.{bands_of}
use Rattle.certificate_model.specs.Families.{ordinary}
use Rattle.certificate_checker.specs.Accepted as accepted
use Rattle.branch_tree.specs.ArteryRules.{rules_of}
use Rattle.branch_tree.specs.Enough.{sets_of}
use Rattle.box_search.specs.Kinds.{Kind}
use Rattle.branch_tree.specs.SiteNames.{IsSiteOf}

abbrev pub whole_bands : (a : Street) → Kind (rules_of a)
whole_bands a = record {
  objective = bands_of a;
  names = ordinary;
  IsSite = IsSiteOf a;
  sets = sets_of a;
  IsProof = accepted.IsProof a;
  IsAccepted = accepted.IsAccepted a;
}
