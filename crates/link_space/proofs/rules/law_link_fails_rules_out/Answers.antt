use Rattle.link_space.proofs.LinkRulesOut.{link_rules_out}
use Rattle.link_space.proofs.rules.law_link_fails_rules_out.Goals as goal

pub returns : goal.returns
returns c = link_rules_out
