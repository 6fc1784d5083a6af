use Rattle.time_space.proofs.Firsts.{after_links, both_ways, first_link_out, first_link_in}
use Rattle.time_space.proofs.rules.check_links.Goals as goal

pub returns-in-Some-clause-first : goal.returns-in-Some-clause-first
returns-in-Some-clause-first c = rw c.link_failing.ensures.value (first_link_out _ _ _ _ c.requires.before c.in-Some.ensures)

pub returns-in-Some-first_broken-clause-first : goal.returns-in-Some-first_broken-clause-first
returns-in-Some-first_broken-clause-first c =
    rw c.link_failing-in-Some-first_broken.ensures.value (first_link_in _ _ _ _ c.requires.before c.in_default.ensures c.in-Some-first_broken.ensures)

pub returns-clause-kept : goal.returns-clause-kept
returns-clause-kept c = both_ways c.args.artery.now c.args.base.now c.args.rule c.in_default.ensures c.in_default-first_broken.ensures

pub returns-clause-next : goal.returns-clause-next
returns-clause-next c = after_links c.args.artery.now c.args.base.now c.args.rule c.requires.before
    (both_ways c.args.artery.now c.args.base.now c.args.rule c.in_default.ensures c.in_default-first_broken.ensures)
