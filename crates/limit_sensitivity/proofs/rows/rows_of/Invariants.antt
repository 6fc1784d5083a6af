use Rattle.std.proofs.Common.{take}
use Rattle.std.specs.List.{AllZip}
use Rattle.limit_sensitivity.specs.Rows.{IsRow}
use Rattle.limit_sensitivity.proofs.rows.rows_of.Given as goal

-- a row for each of the changes so far
abbrev pub invariant-loop-index : goal.invariant-loop-index
invariant-loop-index l = AllZip (IsRow l.artery l.limit) (take l.index l.list) l.rows.items
