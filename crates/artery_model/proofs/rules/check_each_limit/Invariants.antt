use Rattle.std.proofs.Common.{◌≡◌, ◌+◌, drop}
use Rattle.artery_model.specs.Faults.{first_fault, each_numbered}
use Rattle.artery_model.specs.Limits.{link_limits}
use Rattle.artery_model.proofs.rules.check_each_limit.Given as goal

-- the links so far have no fault
abbrev pub invariant-loop-index : goal.invariant-loop-index
invariant-loop-index l = first_fault (each_numbered link_limits 1 l.links) ≡ first_fault (each_numbered link_limits (l.index + 1) (drop l.index l.links))
