use Rattle.multi_band.proofs.LinkAnswers.{links_can_be_sought}
use Rattle.multi_band.proofs.LinkLeafProofs.{link_ends_prove}
use Rattle.multi_band.proofs.program.ArteryLinksSought.known_program.Goals as goal

pub returns-clause-ends : goal.returns-clause-ends
returns-clause-ends c = link_ends_prove c.args.self.now.artery.now c.known_valid.ensures

pub returns-clause-sought : goal.returns-clause-sought
returns-clause-sought c = links_can_be_sought c.args.self.now.artery.now c.known_valid.ensures
