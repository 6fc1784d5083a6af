use Rattle.branch_tree.proofs.ArteryEnds.{artery_ends_prove}
use Rattle.branch_tree.proofs.WholeTimings.{can_be_sought}
use Rattle.branch_tree.proofs.artery.WholeBandsSought.known_program.Goals as goal

pub returns-clause-ends : goal.returns-clause-ends
returns-clause-ends c = artery_ends_prove c.args.self.now.artery.now c.known_valid.ensures

pub returns-clause-sought : goal.returns-clause-sought
returns-clause-sought c = can_be_sought c.args.self.now.artery.now c.known_valid.ensures
