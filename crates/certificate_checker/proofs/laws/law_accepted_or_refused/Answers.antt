use Rattle.certificate_checker.proofs.Firsts.{fits}
use Rattle.certificate_checker.proofs.laws.law_accepted_or_refused.Goals as goal

pub returns : goal.returns
returns c = let f = fits c.law_fails_rules_out.ensures c.law_one_first.ensures in record { accepted = f.accepted; refused = f.refused; once = f.once }
