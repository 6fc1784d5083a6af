-- A certificate that bounds the timings of a street: one of the street itself, or of the street with its limits of speed moved outwards, of which every
-- good timing of the street is a good timing too.
use Rattle.std.specs.Prelude.{◌≡◌, ◌≢◌, ◌⊎◌, Some, None}
use Rattle.rational_theory.specs.Rational.{ℚ}
use Rattle.progression.specs.Street.{Street}
use Rattle.progression.specs.Best as best
use Rattle.progression.specs.Best.{Bounded}
use Rattle.certificate_model.specs.Warrants.{Warrant}
use Rattle.certificate_model.specs.declared.certificate.Claim.{Claim}
use Rattle.certificate_checker.specs.Accepted.{IsAccepted, limit_of}
use Rattle.certificate_checker.specs.Refusals.{Reject, IsFirstRefusal}
use Rattle.certificate_checker.specs.declared.reject.Reject.TheVariants as reject
use Rattle.speed_steps.specs.Moved.{widen}

abbrev pub IsBound : Street → Warrant → Type 0
IsBound a w = IsAccepted a w ⊎ IsAccepted (widen a) w

-- there is a first refusal, and it isn't want of memory
pub record IsRefused (a : Street) (w : Warrant) : Type 0 where
  pub why : Reject
  pub first : IsFirstRefusal a w why
  pub kept : why ≢ reject.Memory

-- what such a claim says of the street: no good timing has a weighted band above its number, and where it has none no timing is good
pub record BoundHolds (a : Street) (claim : Claim) : Type 0 where
  pub bounded : (x : ℚ) → limit_of claim ≡ Some x → Bounded a x
  pub none : limit_of claim ≡ None → best.NoTiming a
