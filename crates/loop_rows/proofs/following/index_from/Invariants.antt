use Rattle.std.proofs.Common.{ℕ, ◌<◌, ◌≤◌}
use Rattle.loop_rows.specs.RowSets.{rows_of_set}
use Rattle.loop_rows.proofs.following.index_from.Given as goal

-- no index so far has a row
abbrev pub invariant-loop-index : goal.invariant-loop-index
invariant-loop-index g l = (j : ℕ) → rows_of_set (g.T.RowTable.rows l.table) l.family j → l.from ≤ j → j < l.index → ⊥
