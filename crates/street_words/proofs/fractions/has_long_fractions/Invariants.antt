use Rattle.std.proofs.Common.{◌≡◌, ◌-◌, ◌≤◌}
use Rattle.street_words.specs.Warnings.{most_ticks, ticks_for}
use Rattle.street_words.proofs.fractions.has_long_fractions.Given as goal

-- the ticks for the links so far, which are few
abbrev pub invariant-loop-link : goal.invariant-loop-link
invariant-loop-link l = (1 ≤ l.link) × (l.ticks ≡ ticks_for l.artery (l.link - 1)) × (1 ≤ l.ticks) × (l.ticks ≤ most_ticks)
