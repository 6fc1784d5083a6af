use Rattle.std.proofs.Common.{rules}
use Rattle.plan_text.proofs.tree.is_list.Goals as goal

pub returns-in-Ok-clause-is : goal.returns-in-Ok-clause-is
returns-in-Ok-clause-is c = search rules
