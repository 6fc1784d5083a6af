use Rattle.multi_band.proofs.program.ArteryLinksSought.confirm.Goals as goal

pub returns-in-Ok : goal.returns-in-Ok
returns-in-Ok c = c.in-Ok.ensures.holds
