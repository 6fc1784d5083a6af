use Rattle.std.proofs.Common.{arith}
use Rattle.fraction_tableau.proofs.Filling.{counted_none, counted_next, counted_all}
use Rattle.fraction_tableau.proofs.loading.count_up.Goals as goal

pub loop-place-init : goal.loop-place-init
loop-place-init c = counted_none _

pub loop-place-preserved : goal.loop-place-preserved
loop-place-preserved c = counted_next _ _ _ c.loop-place.invariant (omega arith)

pub returns : goal.returns
returns c = counted_all _ _ _ c.loop-place.invariant (omega arith)
