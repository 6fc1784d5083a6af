use Rattle.std.proofs.Common.{◌≡◌, length}
use Rattle.certificate_checker.specs.Owed.{AreSplits, waiting}
use Rattle.certificate_checker.proofs.owed.next.Given as goal

-- the same boxes wait
abbrev pub invariant-loop-entry : goal.invariant-loop-entry
invariant-loop-entry l = record {
  same : waiting l.area l.way ≡ waiting l.fn.area l.fn.way;
  splits : AreSplits l.area l.way;
}

abbrev pub decreases-loop-entry : goal.decreases-loop-entry
decreases-loop-entry l = length l.way
