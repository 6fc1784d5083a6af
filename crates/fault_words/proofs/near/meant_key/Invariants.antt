use Rattle.std.proofs.Common.{◌≡◌, map, drop}
use Rattle.std.specs.List.{find}
use Rattle.description_reader.specs.KeyTable.{key_of}
use Rattle.fault_words.specs.Near.{is_meant, meant_key}
use Rattle.fault_words.proofs.near.meant_key.Given as goal

-- those so far aren't meant
abbrev pub invariant-loop-entry : goal.invariant-loop-entry
invariant-loop-entry l = meant_key l.facts l.section l.name ≡ find (is_meant l.facts l.section l.name) (map key_of (drop l.entry-index l.entry-items))
