use Rattle.linear_theory.specs.Names.{name_of}
use Rattle.loop_rows.specs.Following.{rows_of_artery}
use Rattle.loop_rows.specs.RowSets.{artery_set, rows_of_set}
use Rattle.loop_rows.proofs.Next.{next_same}
use Rattle.loop_rows.proofs.RowTests.{row_decided}
use Rattle.loop_rows.proofs.rows.next_row.Goals as goal

pub returns : goal.returns
returns c =
    let a = c.args.artery.now in
    next_same (rows_of_set (artery_set a)) (rows_of_artery a) (λ f i. row_decided a (name_of f i)) c.args.after c.next_in.result c.next_in.ensures
