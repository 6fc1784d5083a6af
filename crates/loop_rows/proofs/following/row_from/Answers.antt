use Rattle.loop_rows.specs.RowSets.{rows_of_set}
use Rattle.loop_rows.proofs.Next.{not_in}
use Rattle.loop_rows.proofs.following.row_from.Goals as goal

pub loop-next-preserved : goal.loop-next-preserved
loop-next-preserved g c = not_in (rows_of_set (g.T.RowTable.rows c.args.table.now)) c.args.family c.loop-next.next c.in_default.ensures c.loop-next.invariant
