use Rattle.std.proofs.Common.{◌≡◌, true, ◌<◌, ◌≤◌}
use Rattle.named_row.specs.declared.names.RowId.{RowId}
use Rattle.loop_rows.proofs.following.row_from.Given as goal

-- no family so far has a row
abbrev pub invariant-loop-next : goal.invariant-loop-next
invariant-loop-next g l = (s : RowId) → (g.T.RowTable.rows l.table).has s ≡ true → l.family ≤ s.family → s.family < l.next → ⊥
