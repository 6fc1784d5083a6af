use Rattle.std.proofs.Common.{rules}
use Rattle.link_proof.specs.LinkFamilies.{links}
use Rattle.link_proof.proofs.families.link_families.Goals as goal

pub returns-clause-table : goal.returns-clause-table
unfolding links
returns-clause-table c = search rules
