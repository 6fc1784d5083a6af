use Rattle.std.proofs.Common.{◌≡◌, ◌-◌, ◌++◌, flat_map}
use Rattle.std.specs.List.{range_with_len}
use Rattle.progression.specs.Street.{link_of}
use Rattle.street_changes.specs.Changes.{pace_changes}
use Rattle.street_changes.proofs.listing.push_link_paces.Given as goal

abbrev pub invariant-loop-link : goal.invariant-loop-link
invariant-loop-link l = l.changes.items ≡ l.fn.changes.items ++ flat_map (λ i. pace_changes i (link_of l.artery i)) (range_with_len 1 (l.link - 1))
