-- What a certificate of the widened street says of the street.
use Rattle.std.proofs.Common.{◌≡◌, Option, subst}
use Rattle.progression.specs.Street.{Street}
use Rattle.progression.specs.TimingRecord.{TimingRecord}
use Rattle.artery_model.specs.Valid.{IsValid}
use Rattle.certificate_model.specs.declared.certificate.Claim.{Claim}
use Rattle.certificate_checker.specs.Claims.{ClaimHolds}
use Rattle.speed_steps.specs.Moved.{widen}
use Rattle.speed_steps.proofs.Timings.{widen_holds_all}
use Rattle.run_commands.specs.Bound.{BoundHolds}
use Rattle.run_commands.proofs.Planning.{claim_bounds, some_claim}

pub bound_own : (a : Street) (claim : Claim) (timing : Option TimingRecord) → ClaimHolds a claim timing → BoundHolds a claim
bound_own a claim timing h = record {
  bounded = λ x e. claim_bounds a claim timing x e h;
  none = λ e t good. some_claim a claim timing t h good e;
}

bound_widened : (a : Street) (claim : Claim) (timing : Option TimingRecord) → IsValid a → ClaimHolds (widen a) claim timing → BoundHolds a claim
bound_widened a claim timing valid h = record {
  bounded = λ x e t good. claim_bounds (widen a) claim timing x e h t (widen_holds_all a t valid good);
  none = λ e t good. some_claim (widen a) claim timing t h (widen_holds_all a t valid good) e;
}

pub bound_by : (a wide : Street) (claim : Claim) (timing : Option TimingRecord) → IsValid a → wide ≡ widen a → ClaimHolds wide claim timing → BoundHolds a claim
bound_by a wide claim timing valid e h = bound_widened a claim timing valid (subst (λ s. ClaimHolds s claim timing) e h)
