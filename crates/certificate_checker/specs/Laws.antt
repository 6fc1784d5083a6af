-- How acceptance and refusals fit together.
use Rattle.std.specs.Prelude.{◌≡◌, ◌≢◌, ◌↔◌, None}
use Rattle.progression.specs.Street.{Street}
use Rattle.certificate_model.specs.Families.{Table, ordinary}
use Rattle.certificate_model.specs.Warrants.{WarrantWith, IsCertificateIn}
use Rattle.certificate_checker.specs.Accepted.{IsAccepted}
use Rattle.certificate_checker.specs.ClaimRefusals.{IfThere}
use Rattle.certificate_checker.specs.Checked.{Checked, first_refusal, IsFirstRefusalOf}
use Rattle.certificate_checker.specs.Refusals.{one_band}
use Rattle.certificate_checker.specs.declared.reject.Reject.{Reject}
use Rattle.certificate_checker.specs.declared.reject.Reject.TheVariants.{Memory}

-- ---- for timings of any kind
module _ {T F : Type 0} (kind : Street → Checked T F) (Accepts : Street → WarrantWith T → Type 0) where
  -- a certificate whose rows have names in the table is accepted exactly where nothing of it is refused
  abbrev pub AcceptedExactlyOf : Table → Type 0
  AcceptedExactlyOf table = (a : Street) (c : WarrantWith T) → IsCertificateIn table c → Accepts a c ↔ (IfThere (kind a).objective.IsGood c.timing × (first_refusal (kind a) c ≡ None))

  -- no certificate is both accepted and refused, but for want of memory
  abbrev pub RefusedIsNotAcceptedOf : Type 0
  RefusedIsNotAcceptedOf = (a : Street) (c : WarrantWith T) (r : Reject F) → IsFirstRefusalOf (kind a) c r → r ≢ Memory → Accepts a c → ⊥

-- one refusal at most is the first
abbrev pub OneFirstRefusalOf : {T F : Type 0} → (Street → Checked T F) → Type 0
OneFirstRefusalOf {T} {F} kind = (a : Street) (c : WarrantWith T) (r s : Reject F) → IsFirstRefusalOf (kind a) c r → IsFirstRefusalOf (kind a) c s → r ≢ Memory → s ≢ Memory → r ≡ s

-- ---- for those with one band a direction
abbrev pub AcceptedExactly : Type 0
AcceptedExactly = AcceptedExactlyOf one_band IsAccepted ordinary

abbrev pub RefusedIsNotAccepted : Type 0
RefusedIsNotAccepted = RefusedIsNotAcceptedOf one_band IsAccepted

abbrev pub OneFirstRefusal : Type 0
OneFirstRefusal = OneFirstRefusalOf one_band
