-- What the records of a sweep say of the street, in the words of the model.
use Rattle.std.specs.Prelude.{◌≡◌, ℕ, List, Option, Some, None, IfSome, codes}
use Rattle.rational_theory.specs.Rational.{ℚ, ◌≤ℚ◌}
use Rattle.progression.specs.Street.{Street}
use Rattle.progression.specs.TimingRecord.{TimingRecord}
use Rattle.progression.specs.Good.{Good}
use Rattle.progression.specs.Best as best
use Rattle.progression.specs.Best.{Best, Bounded, weighted_band}
use Rattle.quantity_text.specs.Exact.{exact_spelling}
use Rattle.certificate_model.specs.Warrants.{Warrant}
use Rattle.certificate_model.specs.declared.certificate.Claim.{Claim}
use Rattle.certificate_model.specs.declared.certificate.Claim.TheVariants as claim
use Rattle.certificate_checker.specs.Accepted.{IsAccepted}
use Rattle.branch_and_bound.specs.declared.found.Stop.{Stop}
use Rattle.branch_and_bound.specs.declared.found.Stop.TheVariants.{Work, Wide}
use Rattle.branch_and_bound.specs.declared.found.Verdict.{Verdict}
use Rattle.branch_and_bound.specs.declared.found.Verdict.TheVariants as verdict
use Rattle.box_search.specs.declared.site.SitePart.{SitePart}
use Rattle.branch_tree.specs.Certified.{value_of}
use Rattle.cycle_sweep.specs.declared.row.SweepRow.{SweepRow}
use Rattle.cycle_sweep.specs.declared.row.SweepRow.TheVariants.{Outside, Searched}
use Rattle.cycle_sweep.specs.Rows.{at_cycle, IsAllowed, IsRow}
use Rattle.cycle_sweep.specs.Table.{fields, dash, stop_text, cycle_fields, row_fields}

-- a certificate with this claim and this timing is accepted
pub record HasCertificate (a : Street) (claimed : Claim) (timing : Option TimingRecord) : Type 0 where
  pub certificate : Warrant
  pub accepted : IsAccepted a certificate
  pub claim_is : certificate.claim ≡ claimed
  pub timing_is : certificate.timing ≡ timing

-- the record of a verdict, a weighted band, what none exceeds, and a cause
abbrev pub Telling : Type 0
Telling = List ℕ → Option ℚ → Option ℚ → List ℕ → List (List ℕ)

-- `best`: this timing is best, and its weighted band is told twice
pub record SaysBest (a : Street) (tell : Telling) (texts : List (List ℕ)) : Type 0 where
  pub timing : TimingRecord
  pub best : Best a timing
  pub certified : HasCertificate a (claim.Best (weighted_band a timing)) (Some timing)
  pub texts_are : texts ≡ tell (codes "best") (Some (weighted_band a timing)) (Some (weighted_band a timing)) dash

-- `none`: no timing is good
pub record SaysNone (a : Street) (tell : Telling) (texts : List (List ℕ)) : Type 0 where
  pub none : best.NoTiming a
  pub certified : HasCertificate a claim.NoTiming None
  pub texts_are : texts ≡ tell (codes "none") None None dash

-- all units of work were spent, where that is the cause
abbrev pub IsWhy : Option ℕ → ℕ → Stop SitePart → Type 0
IsWhy limit spent (Work units) = (units ≡ spent) × (limit ≡ Some spent)
IsWhy limit spent (Wide site) = Unit {0}

-- `open`: no good timing has a weighted band above the bound, and a timing that was found is good
pub record SaysOpen (a : Street) (limit : Option ℕ) (tell : Telling) (spent : ℕ) (stop : Stop SitePart) (texts : List (List ℕ)) : Type 0 where
  pub bound : ℚ
  pub timing : Option TimingRecord
  pub bounded : Bounded a bound
  pub good : IfSome timing (λ t. Good a t × (weighted_band a t ≤ℚ bound))
  pub certified : HasCertificate a (claim.Stopped bound (value_of a timing)) timing
  pub why : IsWhy limit spent stop
  pub texts_are : texts ≡ tell (codes "open") (value_of a timing) (Some bound) (stop_text stop)

-- what the record of what was found means of the street that was searched
abbrev pub SaysFound : Street → Option ℕ → Telling → ℕ → Verdict SitePart → List (List ℕ) → Type 0
SaysFound a limit tell spent verdict.Best texts = SaysBest a tell texts
SaysFound a limit tell spent verdict.NoTiming texts = SaysNone a tell texts
SaysFound a limit tell spent (verdict.Stopped stop) texts = SaysOpen a limit tell spent stop texts

-- `outside`: the street doesn't allow the cycle
abbrev pub SaysRow : Street → Option ℕ → ℚ → SweepRow → List (List ℕ) → Type 0
SaysRow a limit cycle (Outside shown) texts = (¬ IsAllowed a cycle) × (texts ≡ fields (exact_spelling cycle) (codes "outside") dash dash dash)
SaysRow a limit cycle (Searched shown found) texts = IsAllowed a cycle × SaysFound (at_cycle a cycle) limit (cycle_fields cycle) found.spent found.verdict texts

-- what the record of a cycle means
abbrev pub RowsSay : Type 0
RowsSay = (a : Street) (limit : Option ℕ) (cycle : ℚ) (row : SweepRow) → IsRow a limit cycle row → SaysRow a limit cycle row (row_fields a row)
