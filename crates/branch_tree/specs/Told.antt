-- What the answer of a search of an artery tells of its timing, and what a certificate keeps of it.
use Rattle.std.specs.Prelude.{Option}
use Rattle.rational_theory.specs.Rational.{ℚ}
use Rattle.progression.specs.Street.{Street}
use Rattle.progression.specs.TimingRecord.{TimingRecord}
use Rattle.progression.specs.Best.{weighted_band}
use Rattle.certificate_model.specs.Families.{ordinary}
use Rattle.branch_and_bound.specs.declared.found.Found as engine
use Rattle.branch_and_bound.specs.declared.found.Verdict.{Verdict}
use Rattle.box_search.specs.declared.site.SitePart.{SitePart}
use Rattle.box_search.specs.Told.{TellsOf, IsCertifiableIn}

-- what a search of an artery finds
abbrev pub Found : Type 0
Found = engine.Found TimingRecord SitePart

abbrev pub Tells : Street → Option TimingRecord → ℚ → Verdict SitePart → Type 0
Tells a = TellsOf (weighted_band a)

abbrev pub IsCertifiable : Found → Type 0
IsCertifiable found = IsCertifiableIn ordinary found
