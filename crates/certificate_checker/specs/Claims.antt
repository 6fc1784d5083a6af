-- What a certificate claims, of every timing of its kind on any grid.
use Rattle.std.specs.Prelude.{◌≡◌, Option, None, Some}
use Rattle.rational_theory.specs.Rational.{ℚ}
use Rattle.progression.specs.Street.{Street}
use Rattle.progression.specs.TimingRecord.{TimingRecord}
use Rattle.progression.specs.Objectives.{Objective, BoundedBy, BestOf, NoneOf}
use Rattle.progression.specs.Best.{bands_of}
use Rattle.certificate_model.specs.declared.certificate.Claim.{Claim}
use Rattle.certificate_model.specs.declared.certificate.Claim.TheVariants.{Best, NoTiming, Stopped}
use Rattle.certificate_checker.specs.Accepted.{IsTimedBy}

-- the timing is best and has this value
abbrev pub IsBestBy : {T : Type 0} → Objective T → Option T → ℚ → Type 0
IsBestBy o None value = ⊥
IsBestBy o (Some t) value = BestOf o t × (o.worth t ≡ value)

-- the timing is best; or no timing is good; or no good timing has a value above the bound, and the timing is good with its value
abbrev pub ClaimHoldsBy : {T : Type 0} → Objective T → Claim → Option T → Type 0
ClaimHoldsBy o (Best value) timing = IsBestBy o timing value
ClaimHoldsBy o NoTiming timing = NoneOf o
ClaimHoldsBy o (Stopped bound value) timing = BoundedBy o bound × IsTimedBy o.IsGood o.worth timing value

-- of an artery
abbrev pub ClaimHolds : Street → Claim → Option TimingRecord → Type 0
ClaimHolds a = ClaimHoldsBy (bands_of a)
