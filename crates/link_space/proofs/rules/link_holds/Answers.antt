use Rattle.link_space.proofs.LinkFirsts.{green_here, green_there}
use Rattle.link_space.proofs.rules.link_holds.Goals as goal

pub returns-clause-good : goal.returns-clause-good
returns-clause-good c = record {
  formed = c.check_base.ensures.formed;
  base = c.in_ok-check_base.ensures.kept;
  ratio = c.in_ok-check_ratios.ensures.kept;
  here = green_here c.args.artery.now c.args.timing.now c.in_ok-check_bands.ensures.kept c.in_ok-check_bands-2.ensures.kept;
  there = green_there c.args.artery.now c.args.timing.now c.in_ok-check_bands.ensures.kept c.in_ok-check_bands-2.ensures.kept;
}
