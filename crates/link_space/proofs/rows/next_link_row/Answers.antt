use Rattle.link_theory.specs.LinkNames.{link_name_of}
use Rattle.loop_rows.specs.RowSets.{rows_of_set}
use Rattle.loop_rows.proofs.Next.{next_same}
use Rattle.link_space.specs.LinkWeights.{rows_of_links, link_set}
use Rattle.link_space.proofs.LinkRowTests.{link_row_decided}
use Rattle.link_space.proofs.rows.next_link_row.Goals as goal

pub returns : goal.returns
returns c =
    let a = c.args.artery.now in
    next_same (rows_of_set (link_set a)) (rows_of_links a) (λ f i. link_row_decided a (link_name_of f i)) c.args.after c.next_in.result c.next_in.ensures
