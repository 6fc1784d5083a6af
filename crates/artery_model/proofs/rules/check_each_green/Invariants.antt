use Rattle.std.proofs.Common.{◌≡◌, ◌+◌, drop}
use Rattle.artery_model.specs.Faults.{first_fault, each_numbered}
use Rattle.artery_model.specs.Limits.{has_green}
use Rattle.artery_model.proofs.rules.check_each_green.Given as goal

-- the signals so far have no fault
abbrev pub invariant-loop-index : goal.invariant-loop-index
invariant-loop-index l = first_fault (each_numbered (has_green l.parts) 1 l.signals) ≡ first_fault (each_numbered (has_green l.parts) (l.index + 1) (drop l.index l.signals))
