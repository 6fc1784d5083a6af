use Rattle.std.proofs.Common.{◌≡◌, map, drop}
use Rattle.std.specs.List.{find}
use Rattle.artery_model.specs.Limits.{is_text}
use Rattle.description_reader.specs.KeyTable.{key_of}
use Rattle.fault_words.specs.Near.{named_key}
use Rattle.fault_words.proofs.near.named_key.Given as goal

-- the key is none of those so far
abbrev pub invariant-loop-entry : goal.invariant-loop-entry
invariant-loop-entry l = named_key l.fn.section l.name ≡ find (λ k. is_text l.name k.name) (map key_of (drop l.entry-index l.entry-items))
