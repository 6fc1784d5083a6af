use Rattle.std.proofs.lemmas.Fn.{always_returns_same}
use Rattle.std.proofs.Common.{of_calls, sym, rules}
use Rattle.named_row.specs.declared.names.RowId.{RowId}
use Rattle.named_row.specs.Order.{is_below}
use Rattle.plan_text.proofs.Places.{place_from_point, below_first}
use Rattle.plan_text.proofs.listed.place_of_row.Goals as goal

pub returns : goal.returns
returns c =
    let rows = c.args.rows.now in
    let row = c.args.row in
    let point = c.partition_point-before.ensures.partitioned (λ (r : RowId). is_below r row) (always_returns_same _ _ _ (λ a r f k. search (rules, of_calls)))
    (λ i j d le lt h. below_first rows row i j d c.requires le lt h) in
    sym (place_from_point rows row c.partition_point-before.result c.partition_point-before.ensures.bound point.0 point.1)
