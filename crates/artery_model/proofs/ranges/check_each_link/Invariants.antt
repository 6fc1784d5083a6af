use Rattle.std.proofs.Common.{◌≡◌, ◌+◌, drop, length}
use Rattle.artery_model.specs.Faults.{first_fault, each_numbered}
use Rattle.artery_model.specs.Limits.{link_ranges}
use Rattle.artery_model.proofs.ranges.check_each_link.Given as goal

-- the links so far have no fault
abbrev pub invariant-loop-index : goal.invariant-loop-index
invariant-loop-index l = first_fault (each_numbered (link_ranges (length l.links)) 1 l.links) ≡ first_fault (each_numbered (link_ranges (length l.links)) (l.index + 1) (drop l.index l.links))
