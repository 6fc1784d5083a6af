use Rattle.certificate_checker.proofs.Preorders.{proofs_are_trees}
use Rattle.certificate_checker.proofs.laws.law_proofs_are_trees.Goals as goal

pub returns : goal.returns
returns c a limit box ns = proofs_are_trees a limit box ns
