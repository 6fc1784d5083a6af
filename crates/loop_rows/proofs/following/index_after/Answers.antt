use Rattle.std.proofs.Common.{◌+◌, arith}
use Rattle.loop_rows.specs.RowSets.{rows_of_set}
use Rattle.loop_rows.proofs.Next.{no_index}
use Rattle.loop_rows.proofs.following.index_after.Goals as goal

pub returns-then-last_index-row : goal.returns-then-last_index-row
returns-then-last_index-row g c =
    no_index (rows_of_set (g.T.RowTable.rows c.args.table.now)) (g.T.RowTable.rows c.args.table.now).last_index (λ f i h. c.known_rows.ensures.index (record { family = f; index = i }) h)
    c.args.row.family (c.args.row.index + 1) (omega arith)
