use Rattle.std.proofs.Common.{◌≡◌, true, map, take}
use Rattle.std.specs.Prelude.{string_bytes}
use Rattle.std.specs.List.{list_all}
use Rattle.run_inputs.specs.Cycles.{spells}
use Rattle.run_inputs.proofs.cycles.all_spelled.Given as goal

abbrev pub invariant-loop-word : goal.invariant-loop-word
invariant-loop-word g l = list_all (spells g.T.Cycle.value) (map string_bytes (take l.word-index l.words)) ≡ true
