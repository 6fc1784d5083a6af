use Rattle.std.proofs.Common.{◌≡◌, take}
use Rattle.street_changes.specs.Changed.{each_by, changed_link}
use Rattle.street_changes.proofs.changed.changed_links.Given as goal

abbrev pub invariant-loop-index : goal.invariant-loop-index
invariant-loop-index l = l.list.items ≡ each_by (changed_link l.change) 1 (take l.index l.links)
