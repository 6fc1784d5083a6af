use Rattle.link_space.proofs.LinkOnlyFirst.{one_first_link}
use Rattle.link_space.proofs.rules.law_one_first_link.Goals as goal

pub returns : goal.returns
returns c = one_first_link
