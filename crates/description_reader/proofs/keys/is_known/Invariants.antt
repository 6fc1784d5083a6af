use Rattle.std.proofs.Common.{◌≡◌, ◌&&◌, map, drop}
use Rattle.std.specs.List.{list_any}
use Rattle.artery_model.specs.Limits.{is_text}
use Rattle.description_reader.specs.Keys.{may_stand, is_known}
use Rattle.description_reader.specs.KeyTable.{key_of, is_in}
use Rattle.description_reader.proofs.keys.is_known.Given as goal

-- the key is none of those so far
abbrev pub invariant-loop-entry : goal.invariant-loop-entry
invariant-loop-entry l =
    is_known l.facts l.section l.name
    ≡ list_any (λ k. is_text l.name k.name && is_in l.facts k.when && may_stand l.facts.links l.section k.presence) (map key_of (drop l.entry-index l.entry-items))
