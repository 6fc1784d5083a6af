-- What is refused of a claim by its numbers alone, whatever kind of timing it is of: the timing's value is looked at first, then the bound.
use Rattle.std.specs.Prelude.{not, Option, None, Some}
use Rattle.std.specs.Ordering.{is_lt, eq_by_cmp}
use Rattle.rational_theory.specs.Rational.{ℚ}
use Rattle.rational_theory.specs.Compare.{cmp_ℚ}
use Rattle.narrow_fraction.specs.Attempt.{refusal_if, earlier}
use Rattle.certificate_model.specs.declared.certificate.Claim.{Claim}
use Rattle.certificate_model.specs.declared.certificate.Claim.TheVariants.{Best, NoTiming, Stopped}
use Rattle.certificate_checker.specs.Accepted.{value_of}
use Rattle.certificate_checker.specs.declared.reject.Reject.{Reject}
use Rattle.certificate_checker.specs.declared.reject.Reject.TheVariants.{ValueDiffers, BoundBelow}

-- of the timing, if there is one, this holds
abbrev pub IfThere : {T : Type 0} → (T → Type 0) → Option T → Type 0
IfThere P None = Unit {0}
IfThere P (Some t) = P t

-- the timing's value is not the one that is claimed
abbrev pub kept_refusal : {F : Type 0} → Option ℚ → Option ℚ → Option (Reject F)
kept_refusal (Some kept) (Some claimed) = refusal_if (not (eq_by_cmp cmp_ℚ kept claimed)) (ValueDiffers kept claimed)
kept_refusal (Some kept) None = None
kept_refusal None claimed = None

-- the bound is less than the value
abbrev pub bound_refusal : {F : Type 0} → Claim → Option (Reject F)
bound_refusal (Stopped bound (Some value)) = refusal_if (is_lt (cmp_ℚ bound value)) (BoundBelow bound value)
bound_refusal (Stopped bound None) = None
bound_refusal (Best value) = None
bound_refusal NoTiming = None

-- either, for a timing of this value
abbrev pub claim_refusal : {F : Type 0} → Option ℚ → Claim → Option (Reject F)
claim_refusal kept claim = earlier (kept_refusal kept (value_of claim)) (bound_refusal claim)
