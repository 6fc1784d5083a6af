use Rattle.std.proofs.Common.{arith}
use Rattle.rational_theory.proofs.Compare.{ne_true, ne_false}
use Rattle.link_space.proofs.families.LinkFamilyFamily.has.Goals as goal

pub returns-then-index-count : goal.returns-then-index-count
returns-then-index-count c = grind (arith, ne_true, ne_false)
