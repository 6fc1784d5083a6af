-- A plan that holds is worth no more than what an accepted certificate bounds.
use Rattle.std.proofs.Common.{Option, Some, None, subst}
use Rattle.rational_theory.specs.Rational.{◌≤ℚ◌}
use Rattle.progression.specs.Street.{Street}
use Rattle.progression.specs.TimingRecord.{TimingRecord}
use Rattle.progression.specs.Good.{Good}
use Rattle.progression.specs.Best.{weighted_band}
use Rattle.certificate_model.specs.declared.certificate.Claim.{Claim}
use Rattle.certificate_model.specs.declared.certificate.Claim.TheVariants as claim
use Rattle.certificate_checker.specs.Claims.{ClaimHolds}
use Rattle.certificate_checker.specs.Laws.{RefusedIsNotAccepted}
use Rattle.run_inputs.specs.Reading.{Reads}
use Rattle.run_inputs.specs.declared.reader.ReadAs.TheVariants.{Description}
use Rattle.run_commands.specs.Hold.{IsJudged}
use Rattle.run_laws.specs.PlanLaws.{IsWithin, TimingIsBounded}
use Rattle.run_laws.proofs.Readers.{OneReading, one_read}
use Rattle.run_laws.proofs.Says.{check_says}
use Rattle.run_laws.proofs.PlansSay.{timing_says}

within_claim : (a : Street) (k : Claim) (o : Option TimingRecord) (t : TimingRecord) → ClaimHolds a k o → Good a t → IsWithin k (weighted_band a t)
within_claim a (claim.Best value) None t h g = absurd h
within_claim a (claim.Best value) (Some u) t h g = subst (λ x. weighted_band a t ≤ℚ x) h.1 (h.0.greatest t g)
within_claim a claim.NoTiming o t h g = h t g
within_claim a (claim.Stopped bound value) o t h g = h.0 t g

pub timing_bounded : OneReading → RefusedIsNotAccepted → TimingIsBounded
timing_bounded reader apart before now checked_before checked_now artery plan timing certificate c d told same h m k n =
    let p = (timing_says before now artery plan timing c h).0 m in
    let s = (check_says apart checked_before checked_now artery certificate d k).0 n in
    let e = one_read reader Description (before.holds artery) s.street p.street told (subst (λ o. Reads Description o s.street) same s.description) p.description in
    record {
      put = p;
      accepted = s;
      same = e;
      within = λ none.
          let good = subst (λ f. IsJudged p.street p.made.timing f) none p.judged in
          within_claim p.street s.warrant.claim s.warrant.timing p.made.timing (subst (λ a. ClaimHolds a s.warrant.claim s.warrant.timing) e s.proves) good;
    }
