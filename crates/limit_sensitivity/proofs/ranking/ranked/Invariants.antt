use Rattle.std.proofs.Common.{◌≡◌, [], take}
use Rattle.limit_sensitivity.specs.Report.{ranked_onto}
use Rattle.limit_sensitivity.proofs.ranking.ranked.Given as goal

abbrev pub invariant-loop-timed : goal.invariant-loop-timed
invariant-loop-timed l = l.list.items ≡ ranked_onto l.base [] (take l.timed-index l.all)
