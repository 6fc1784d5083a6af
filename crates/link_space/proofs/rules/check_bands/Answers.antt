use Rattle.link_space.proofs.LinkFirsts.{first_band}
use Rattle.link_space.proofs.rules.check_bands.Goals as goal

pub returns-in-Some-clause-first : goal.returns-in-Some-clause-first
returns-in-Some-clause-first c =
    rw c.band_failing.ensures
    (first_band c.args.artery.now c.args.timing.now c.args.dir c.requires.before c.in-Some.at.link c.in-Some.at.signal c.in-Some.at.tick c.in-Some.ensures)
