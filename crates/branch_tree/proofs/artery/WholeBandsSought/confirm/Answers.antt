use Rattle.branch_tree.proofs.artery.WholeBandsSought.confirm.Goals as goal

pub returns-in-Ok : goal.returns-in-Ok
returns-in-Ok c = c.in-Ok.ensures.holds
