use Rattle.std.proofs.Common.{◌≡◌, take}
use Rattle.street_changes.specs.Changed.{each_by, changed_signal}
use Rattle.street_changes.proofs.changed.changed_signals.Given as goal

abbrev pub invariant-loop-index : goal.invariant-loop-index
invariant-loop-index l = l.list.items ≡ each_by (changed_signal l.change) 1 (take l.index l.signals)
