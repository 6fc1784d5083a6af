use Rattle.std.proofs.Common.{sym, subst, ◌∙◌, ap, arith}
use Rattle.std.specs.Prelude.{Option}
use Rattle.std.proofs.lemmas.Result.{on_ok_weaker}
use Rattle.rational_theory.specs.Rational.{ℚ}
use Rattle.certificate_model.specs.declared.certificate.Claim.{Claim}
use Rattle.certificate_model.specs.declared.certificate.Claim.TheVariants.{Stopped}
use Rattle.certificate_model.specs.Warrants.{HasTiming}
use Rattle.plan_text.specs.CertificateText.{IsHeldClaim, claim_lines}
use Rattle.plan_text.proofs.WrittenTexts.{best_written, missing_written, stopped_written, none_held, missing_held}
use Rattle.std.proofs.lemmas.Grind.{elements}
use Rattle.plan_text.proofs.cert_writing.push_claim.Goals as goal

pub returns-in_ok-push_value-in-Best : goal.returns-in_ok-push_value-in-Best
returns-in_ok-push_value-in-Best g c = record {
  text = on_ok_weaker c.push_timing.result (best_written g.K.CertificateKind.text c.args.out.now.items _ _ c.push_timing.new.out.items c.args.claim.now
      c.in-Best.value c.args.timing.now c.in-Best.is c.in_ok-push_line-in-Best.ensures c.in_ok-push_value-in-Best.ensures.text) c.push_timing.ensures.text;
  claim = on_ok_weaker c.push_timing.result (λ _. subst IsHeldClaim (sym c.in-Best.is) c.in_ok-push_value-in-Best.ensures.held) c.push_timing.ensures.held;
  timing = c.push_timing.ensures.held;
}

pub returns-in-NoTiming-clause-claim : goal.returns-in-NoTiming-clause-claim
returns-in-NoTiming-clause-claim g c = on_ok_weaker c.push_line-in-NoTiming.result (λ _. subst IsHeldClaim (sym c.in-NoTiming.is) tt) c.push_line-in-NoTiming.ensures

pub returns-in-NoTiming-clause-timing : goal.returns-in-NoTiming-clause-timing
returns-in-NoTiming-clause-timing g c =
    let timing = c.args.timing.now in
    on_ok_weaker c.push_line-in-NoTiming.result (λ _. none_held g.K.CertificateKind.text timing (subst (λ (k : Claim). HasTiming k timing) c.in-NoTiming.is c.requires)) c.push_line-in-NoTiming.ensures

pub returns-in_ok-push_value-in-Some : goal.returns-in_ok-push_value-in-Some
returns-in_ok-push_value-in-Some g c =
    let is = c.in-Stopped.is ∙ ap (λ (v : Option ℚ). Stopped c.in-Stopped.bound v) c.in-Some.is in
    record {
      text = on_ok_weaker c.push_timing-in-Some.result (stopped_written g.K.CertificateKind.text c.args.out.now.items _ _ _ c.push_timing-in-Some.new.out.items
          c.args.claim.now c.in-Stopped.bound c.in-Some.value c.in-Stopped.value c.args.timing.now c.in-Stopped.is c.in-Some.is c.in_ok-push_line-in-Stopped.ensures
          c.in_ok-push_value-in-Stopped.ensures.text c.in_ok-push_value-in-Some.ensures.text) c.push_timing-in-Some.ensures.text;
      claim = on_ok_weaker c.push_timing-in-Some.result (λ _. subst IsHeldClaim (sym is) (c.in_ok-push_value-in-Stopped.ensures.held, c.in_ok-push_value-in-Some.ensures.held))
          c.push_timing-in-Some.ensures.held;
      timing = c.push_timing-in-Some.ensures.held;
    }

pub returns-in-None : goal.returns-in-None
returns-in-None g c =
    let timing = c.args.timing.now in
    let is = c.in-Stopped.is ∙ ap (λ (v : Option ℚ). Stopped c.in-Stopped.bound v) c.in-None.is in
    record {
      text = on_ok_weaker c.push_line-in-None.result (missing_written g.K.CertificateKind.text c.args.out.now.items _ _ c.push_line-in-None.new.out.items
          c.args.claim.now c.in-Stopped.bound c.in-Stopped.value c.args.timing.now c.in-Stopped.is c.in-None.is c.in_ok-push_line-in-Stopped.ensures
          c.in_ok-push_value-in-Stopped.ensures.text) c.push_line-in-None.ensures;
      claim = on_ok_weaker c.push_line-in-None.result (λ _. subst IsHeldClaim (sym is) c.in_ok-push_value-in-Stopped.ensures.held) c.push_line-in-None.ensures;
      timing = on_ok_weaker c.push_line-in-None.result (λ _. missing_held g.K.CertificateKind.text c.in-Stopped.bound timing (subst (λ (k : Claim). HasTiming k timing) is c.requires))
          c.push_line-in-None.ensures;
    }

pub returns-in-NoTiming-clause-text : goal.returns-in-NoTiming-clause-text
unfolding claim_lines
returns-in-NoTiming-clause-text g c = grind (arith, elements)
