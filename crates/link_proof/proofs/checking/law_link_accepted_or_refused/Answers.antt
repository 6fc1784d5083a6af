use Rattle.link_proof.proofs.LinkRefusalsFirst.{links_fit}
use Rattle.link_proof.proofs.checking.law_link_accepted_or_refused.Goals as goal

pub returns : goal.returns
returns c = let f = links_fit c.law_link_fails_rules_out.ensures c.law_one_first_link.ensures in record { accepted = f.accepted; refused = f.refused; once = f.once }
