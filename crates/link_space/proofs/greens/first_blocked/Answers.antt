use Rattle.link_space.specs.LinkGreens.{IsGreenLink}
use Rattle.link_space.proofs.Ends.{one_more}
use Rattle.link_space.proofs.greens.first_blocked.Goals as goal

pub loop-link-preserved : goal.loop-link-preserved
loop-link-preserved c = one_more (λ k. IsGreenLink c.args.artery.now c.args.timing.now c.args.dir k) c.loop-link.link c.loop-link.invariant c.in_default.ensures
