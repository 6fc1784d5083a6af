use Rattle.std.proofs.Common.{◌≡◌, ◌+◌, ◌-◌, None}
use Rattle.narrow_fraction.specs.Attempt.{first_below}
use Rattle.recovery_theory.specs.Ticks.{ticks_in}
use Rattle.offset_recovery.specs.Tests.{number_test}
use Rattle.offset_recovery.specs.ByLink.{from_first}
use Rattle.offset_recovery.proofs.links.check_by_link.Given as goal

-- those of the links so far fit
abbrev pub invariant-loop-link : goal.invariant-loop-link
invariant-loop-link l =
    let at = from_first l.first in
    first_below (λ j. number_test (at (j + 1)) (ticks_in l.artery l.point.values.items (at (j + 1)))) (l.link - 1) ≡ None
