use Rattle.std.proofs.Common.{◌≡◌, ◌-◌, ◌++◌, flat_map}
use Rattle.std.specs.List.{range_with_len}
use Rattle.street_changes.specs.Changes.{speed_changes}
use Rattle.street_changes.proofs.listing.push_link_speeds.Given as goal

abbrev pub invariant-loop-link : goal.invariant-loop-link
invariant-loop-link l = l.changes.items ≡ l.fn.changes.items ++ flat_map speed_changes (range_with_len 1 (l.link - 1))
