use Rattle.std.proofs.Common.{◌≡◌, ◌++◌, map, take}
use Rattle.std.specs.List.{flat_map}
use Rattle.description_reader.specs.KeyTable.{key_of}
use Rattle.fault_words.specs.FaultWords.{key_here}
use Rattle.fault_words.proofs.unknown.push_keys.Given as goal

abbrev pub invariant-loop-entry : goal.invariant-loop-entry
invariant-loop-entry l = l.out.items ≡ l.fn.out.items ++ flat_map (key_here l.facts l.section) (map key_of (take l.entry-index l.entry-items))
