use Rattle.std.proofs.Common.{◌∙◌}
use Rattle.fraction_tableau.proofs.Filling.{range_more}
use Rattle.fraction_tableau.proofs.fresh.numbers.Goals as goal

pub loop-offset-preserved : goal.loop-offset-preserved
loop-offset-preserved c = c.in_ok-push.ensures.items ∙ range_more c.args.first c.loop-offset.offset _ c.loop-offset.invariant
