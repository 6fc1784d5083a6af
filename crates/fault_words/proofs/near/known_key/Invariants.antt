use Rattle.std.proofs.Common.{◌≡◌, ◌&&◌, map, drop}
use Rattle.std.specs.List.{find}
use Rattle.artery_model.specs.Limits.{is_text}
use Rattle.description_reader.specs.KeyTable.{key_of}
use Rattle.fault_words.specs.Near.{is_here, known_key}
use Rattle.fault_words.proofs.near.known_key.Given as goal

-- the key is none of those so far
abbrev pub invariant-loop-entry : goal.invariant-loop-entry
invariant-loop-entry l =
    known_key l.facts l.section l.name ≡ find (λ k. is_text l.name k.name && is_here l.facts l.section k) (map key_of (drop l.entry-index l.entry-items))
