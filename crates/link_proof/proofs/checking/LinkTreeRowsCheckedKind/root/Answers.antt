use Rattle.link_proof.proofs.LinkMeaning.{link_goal_wide}
use Rattle.link_proof.proofs.checking.LinkTreeRowsCheckedKind.root.Goals as goal

pub returns-clause-width : goal.returns-clause-width
returns-clause-width c = λ box. link_goal_wide c.args.self.now.artery.now c.root.ensures.street.signals
