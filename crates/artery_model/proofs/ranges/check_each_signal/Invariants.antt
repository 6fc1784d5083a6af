use Rattle.std.proofs.Common.{◌≡◌, ◌+◌, drop}
use Rattle.artery_model.specs.Faults.{first_fault, each_numbered}
use Rattle.artery_model.specs.Limits.{signal_ranges}
use Rattle.artery_model.proofs.ranges.check_each_signal.Given as goal

-- the signals so far have no fault
abbrev pub invariant-loop-index : goal.invariant-loop-index
invariant-loop-index l = first_fault (each_numbered (signal_ranges l.parts) 1 l.signals) ≡ first_fault (each_numbered (signal_ranges l.parts) (l.index + 1) (drop l.index l.signals))
