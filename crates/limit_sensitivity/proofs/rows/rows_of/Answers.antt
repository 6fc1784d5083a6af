use Rattle.std.proofs.Common.{arith}
use Rattle.street_changes.specs.declared.limits.Change.TheVariants.{AsItIs}
use Rattle.limit_sensitivity.proofs.Matched.{rows_more}
use Rattle.limit_sensitivity.proofs.rows.rows_of.Goals as goal

pub loop-index-preserved : goal.loop-index-preserved
loop-index-preserved c =
    rows_more c.args.artery.now c.args.limit c.args.list.now c.loop-index.index AsItIs c.loop-index.rows.items c.push.new.items.items c.in_ok-row.row (omega arith) c.in_ok-push.ensures
    c.loop-index.invariant c.in_ok-row.ensures
