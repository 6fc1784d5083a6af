use Rattle.std.proofs.Common.{◌≡◌, ◌++◌, take}
use Rattle.std.specs.List.{flat_map}
use Rattle.limit_sensitivity.specs.Table.{record_text, row_fields}
use Rattle.limit_sensitivity.proofs.table.push_rows.Given as goal

abbrev pub invariant-loop-row : goal.invariant-loop-row
invariant-loop-row l = l.table.items ≡ l.fn.table.items ++ flat_map (λ row. record_text (row_fields l.artery l.base row)) (take l.row-index l.rows)
