use Rattle.run_commands.proofs.Bounding.{bound_own, bound_by}
use Rattle.run_commands.proofs.bound.bound_refusal.Goals as goal

pub returns-in_default-clause-holds : goal.returns-in_default-clause-holds
returns-in_default-clause-holds c = bound_own c.args.artery.now c.args.certificate.now.claim c.args.certificate.now.timing c.in_default.ensures.holds

pub returns-in-Ok-clause-holds : goal.returns-in-Ok-clause-holds
returns-in-Ok-clause-holds c = bound_by c.args.artery.now _ c.args.certificate.now.claim c.args.certificate.now.timing c.known_valid.ensures c.in_ok-wide.ensures c.in-Ok.ensures.holds
