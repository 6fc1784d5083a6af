use Rattle.std.proofs.lemmas.List.Elements.{All-push}
use Rattle.artery_model.specs.Bounds.{least_cycle, most_cycle}
use Rattle.artery_model.specs.Valid.{IsQuantity}
use Rattle.search_tests.proofs.cycle_sweep_tests.cycles_of.Goals as goal

pub loop-number-preserved : goal.loop-number-preserved
loop-number-preserved c =
    rw c.in_ok-push.ensures.items (All-push (IsQuantity least_cycle most_cycle) c.loop-number.cycles.items c.in_ok-cycle.cycle c.loop-number.invariant c.in_ok-cycle.ensures)
