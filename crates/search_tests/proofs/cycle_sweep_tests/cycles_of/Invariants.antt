use Rattle.std.proofs.Common.{All}
use Rattle.artery_model.specs.Bounds.{least_cycle, most_cycle}
use Rattle.artery_model.specs.Valid.{IsQuantity}
use Rattle.search_tests.proofs.cycle_sweep_tests.cycles_of.Given as goal

abbrev pub invariant-loop-number : goal.invariant-loop-number
invariant-loop-number l = All (IsQuantity least_cycle most_cycle) l.cycles.items
