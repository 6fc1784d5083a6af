use Rattle.std.proofs.Common.{◌≡◌, ◌||◌, not, nat_le, map, drop}
use Rattle.std.specs.List.{list_all}
use Rattle.description_reader.specs.KeyTable.{key_of}
use Rattle.fault_words.specs.Near.{distance, is_here, is_nearest}
use Rattle.fault_words.proofs.near.is_nearest.Given as goal

-- those so far are no nearer
abbrev pub invariant-loop-entry : goal.invariant-loop-entry
invariant-loop-entry l =
    is_nearest l.facts l.section l.name l.far
    ≡ list_all (λ k. not (is_here l.facts l.section k) || nat_le l.far (distance l.name k.name)) (map key_of (drop l.entry-index l.entry-items))
