use Rattle.std.proofs.Common.{ℕ, ◌≤◌, ◌<◌}
use Rattle.std.specs.Prelude.{IsTrue}
use Rattle.progression.specs.Street.{allows}
use Rattle.progression.specs.BaseRecord.{pattern_of}
use Rattle.time_space.proofs.rules.check_patterns.Given as goal

-- every signal so far allows its pattern
abbrev pub invariant-loop-signal : goal.invariant-loop-signal
invariant-loop-signal l = (k : ℕ) → 1 ≤ k → k < l.signal → IsTrue (allows l.artery k (pattern_of l.base k))
