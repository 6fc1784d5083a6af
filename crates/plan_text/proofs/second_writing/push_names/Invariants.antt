use Rattle.std.proofs.Common.{◌≡◌, ◌++◌, map, take}
use Rattle.plan_text.specs.Spelling.{ended}
use Rattle.plan_text.specs.SecondText.{row_line}
use Rattle.plan_text.proofs.second_writing.push_names.Given as goal

abbrev pub invariant-loop-row : goal.invariant-loop-row
invariant-loop-row l = l.out.items ≡ l.fn.out.items ++ ended (map row_line (take l.row-index l.rows))
