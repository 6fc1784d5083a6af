use Rattle.std.proofs.Common.{◌≡◌, ◌++◌, take}
use Rattle.std.specs.List.{flat_map}
use Rattle.limit_sensitivity.specs.Report.{timed_line}
use Rattle.limit_sensitivity.proofs.report.push_timed_lines.Given as goal

abbrev pub invariant-loop-timed : goal.invariant-loop-timed
invariant-loop-timed l = l.out.items ≡ l.fn.out.items ++ flat_map (timed_line l.artery l.base) (take l.timed-index l.list)
