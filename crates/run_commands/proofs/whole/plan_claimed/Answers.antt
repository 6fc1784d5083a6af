use Rattle.std.proofs.Common.{◌≡◌, inl, inr, refl, subst, rules}
use Rattle.std.specs.Prelude.{IfSome}
use Rattle.progression.specs.Good.{Good}
use Rattle.run_commands.proofs.whole.plan_claimed.Goals as goal

pub plan_from-requires-clause-basis : goal.plan_from-requires-clause-basis
plan_from-requires-clause-basis c =
    let same : c.certificate.inside.timing ≡ c.args.certificate.now.timing = search rules in record {
      valid = c.known_valid.ensures;
      accepted = c.requires.accepted;
      claim_is = c.requires.claim;
      bounded = c.requires.bounded;
      serves = inl (same, c.serves.ensures.good c.if-serves.true);
    }

pub plan_from-requires-2-clause-basis : goal.plan_from-requires-2-clause-basis
plan_from-requires-2-clause-basis c =
    let same : c.certificate.inside.timing ≡ c.args.certificate.now.timing = search rules in record {
      valid = c.known_valid.ensures;
      accepted = c.requires.accepted;
      claim_is = c.requires.claim;
      bounded = c.requires.bounded;
      serves = inr (refl, subst (λ o. IfSome o (λ t. ¬ Good c.args.artery.now t)) same (c.serves.ensures.bad c.if-serves.false));
    }
