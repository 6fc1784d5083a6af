use Rattle.std.proofs.Common.{◌≡◌, ◌*◌, map}
use Rattle.std.specs.List.{range_with_len}
use Rattle.workload_maker.specs.Draws.{state}
use Rattle.workload_maker.specs.Made.{made_signal}
use Rattle.workload_maker.proofs.artery.draw_signals.Given as goal

-- three draws and one signal for each turn
abbrev pub invariant-loop-index : goal.invariant-loop-index
invariant-loop-index l = record {
  drawn : l.draws ≡ state l.initial.draws (3 * l.index);
  made : l.signals.items ≡ map (made_signal l.initial.draws) (range_with_len 1 l.index);
}
