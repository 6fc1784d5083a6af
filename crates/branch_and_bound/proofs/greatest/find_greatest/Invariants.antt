use Rattle.branch_and_bound.specs.Greatest.{IsGreatest}
use Rattle.branch_and_bound.proofs.greatest.find_greatest.Given as goal

abbrev pub invariant-loop-index : goal.invariant-loop-index
invariant-loop-index g l = IsGreatest l.nodes l.index l.greatest
