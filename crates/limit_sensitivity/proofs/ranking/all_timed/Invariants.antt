use Rattle.std.proofs.Common.{◌≡◌, ◌++◌, take}
use Rattle.std.specs.List.{flat_map}
use Rattle.limit_sensitivity.specs.Report.{timed_of}
use Rattle.limit_sensitivity.proofs.ranking.all_timed.Given as goal

abbrev pub invariant-loop-row : goal.invariant-loop-row
invariant-loop-row l = l.list.items ≡ flat_map (λ row. timed_of l.artery row.change row.outcome) (take l.row-index l.rows)
