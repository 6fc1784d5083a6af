use Rattle.std.proofs.Common.{◌≡◌, map}
use Rattle.std.specs.List.{range_with_len}
use Rattle.workload_maker.specs.Draws.{state}
use Rattle.workload_maker.specs.Made.{distance_drawn}
use Rattle.workload_maker.proofs.artery.draw_distances.Given as goal

-- one draw and one length for each turn
abbrev pub invariant-loop : goal.invariant-loop
invariant-loop l = record {
  drawn : l.draws ≡ state l.initial.draws l.counter;
  made : l.distances.items ≡ map (distance_drawn l.initial.draws) (range_with_len 1 l.counter);
}
