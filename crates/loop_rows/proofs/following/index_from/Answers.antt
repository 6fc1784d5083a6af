use Rattle.std.proofs.Common.{arith}
use Rattle.loop_rows.specs.RowSets.{rows_of_set}
use Rattle.loop_rows.proofs.Next.{none_yet}
use Rattle.loop_rows.proofs.following.index_from.Goals as goal

pub returns : goal.returns
returns g c =
    none_yet (rows_of_set (g.T.RowTable.rows c.args.table.now)) (g.T.RowTable.rows c.args.table.now).last_index (λ f i h. c.known_rows.ensures.index (record { family = f; index = i }) h)
    c.args.family c.args.from c.loop-index.index (omega (arith, c.loop-index-test.false)) c.loop-index.invariant
