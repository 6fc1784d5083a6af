use Rattle.std.proofs.Common.{take}
use Rattle.whole_plan.specs.Choice.{IsSoFar}
use Rattle.whole_plan.proofs.planning.chosen.Given as goal

-- what came of the cycles so far
abbrev pub invariant-loop-seconds : goal.invariant-loop-seconds
invariant-loop-seconds l = IsSoFar l.artery l.given (take l.seconds-index l.cycles) l.so_far
