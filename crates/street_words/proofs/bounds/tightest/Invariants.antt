use Rattle.std.proofs.Common.{◌≡◌, ◌-◌, ◌≤◌}
use Rattle.progression.specs.Street.{count}
use Rattle.street_words.specs.Bounds.{reddest}
use Rattle.street_words.proofs.bounds.tightest.Given as goal

-- the first of the signals so far
abbrev pub invariant-loop-signal : goal.invariant-loop-signal
invariant-loop-signal l = (2 ≤ l.signal) × (l.found ≡ reddest l.artery l.dir (l.signal - 2)) × (1 ≤ l.found) × (l.found ≤ count l.artery)
