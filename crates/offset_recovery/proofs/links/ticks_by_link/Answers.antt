use Rattle.recovery_theory.specs.Ticks.{ticks_in}
use Rattle.offset_recovery.specs.ByLink.{from_first}
use Rattle.offset_recovery.proofs.Items.{item_more}
use Rattle.offset_recovery.proofs.links.ticks_by_link.Goals as goal

pub loop-link-preserved : goal.loop-link-preserved
loop-link-preserved c =
    let a = c.args.artery.now in let x = c.args.point.now.values.items in
    item_more c.loop-link.ticks.items _ c.column_ticks.result (λ i. ticks_in a x (from_first c.args.first i)) 1 c.loop-link.link c.loop-link.auto.link
    c.loop-link.invariant c.column_ticks.ensures c.in_ok-push.ensures
