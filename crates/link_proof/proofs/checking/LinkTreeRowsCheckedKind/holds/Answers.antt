use Rattle.std.proofs.Common.{rules}
use Rattle.link_proof.proofs.checking.LinkTreeRowsCheckedKind.holds.Goals as goal

pub returns-clause-good : goal.returns-clause-good
returns-clause-good c = search rules
