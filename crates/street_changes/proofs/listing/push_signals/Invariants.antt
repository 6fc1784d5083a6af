use Rattle.std.proofs.Common.{◌≡◌, ◌-◌, ◌++◌, flat_map}
use Rattle.std.specs.List.{range_with_len}
use Rattle.progression.specs.Street.{signal_of}
use Rattle.street_changes.specs.Changes.{signal_changes}
use Rattle.street_changes.proofs.listing.push_signals.Given as goal

abbrev pub invariant-loop-signal : goal.invariant-loop-signal
invariant-loop-signal l = l.changes.items ≡ l.fn.changes.items ++ flat_map (λ i. signal_changes i (signal_of l.artery i)) (range_with_len 1 (l.signal - 1))
