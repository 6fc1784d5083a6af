use Rattle.std.proofs.Common.{arith}
use Rattle.progression.specs.Street.{no_link}
use Rattle.street_changes.specs.Changed.{changed_link}
use Rattle.street_changes.proofs.Numbered.{next_more}
use Rattle.street_changes.proofs.changed.changed_links.Goals as goal

pub loop-index-preserved : goal.loop-index-preserved
loop-index-preserved c =
    next_more (changed_link c.args.change) c.args.links.now c.loop-index.list.items c.push.new.items.items c.loop-index.index no_link c.changed_link_at.result (omega arith) c.in_ok-push.ensures
    c.loop-index.invariant c.changed_link_at.ensures
