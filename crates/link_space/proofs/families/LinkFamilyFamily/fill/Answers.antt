use Rattle.std.proofs.Common.{rules}
use Rattle.link_space.proofs.families.LinkFamilyFamily.fill.Goals as goal

pub returns-in-FarRow-clause-row : goal.returns-in-FarRow-clause-row
returns-in-FarRow-clause-row c = search rules
