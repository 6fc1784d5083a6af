use Rattle.std.proofs.Common.{arith}
use Rattle.progression.specs.Street.{no_signal}
use Rattle.street_changes.specs.Changed.{changed_signal}
use Rattle.street_changes.proofs.Numbered.{next_more}
use Rattle.street_changes.proofs.changed.changed_signals.Goals as goal

pub loop-index-preserved : goal.loop-index-preserved
loop-index-preserved c =
    next_more (changed_signal c.args.change) c.args.signals.now c.loop-index.list.items c.push.new.items.items c.loop-index.index no_signal c.in_ok-next.next (omega arith) c.in_ok-push.ensures
    c.loop-index.invariant c.in_ok-next.ensures
