use Rattle.std.proofs.Common.{◌≡◌, ◌-◌}
use Rattle.progression.specs.Columns.{numbered}
use Rattle.recovery_theory.specs.Ticks.{ticks_in}
use Rattle.offset_recovery.specs.ByLink.{from_first}
use Rattle.offset_recovery.proofs.links.ticks_by_link.Given as goal

-- those of the links so far
abbrev pub invariant-loop-link : goal.invariant-loop-link
invariant-loop-link l = l.ticks.items ≡ numbered (l.link - 1) 1 (λ i. ticks_in l.artery l.point.values.items (from_first l.first i))
