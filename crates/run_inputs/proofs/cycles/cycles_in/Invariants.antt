use Rattle.std.proofs.Common.{All, map, take}
use Rattle.std.specs.Prelude.{string_bytes}
use Rattle.run_inputs.specs.Cycles.{AreSpelled}
use Rattle.run_inputs.proofs.cycles.cycles_in.Given as goal

abbrev pub invariant-loop-word : goal.invariant-loop-word
invariant-loop-word g l = record {
  cycles : AreSpelled g.T.Cycle.value (map string_bytes (take l.word-index l.words)) l.cycles.items;
  limits : All (g.T.Cycle.InLimits) l.cycles.items;
}
