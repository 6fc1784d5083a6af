use Rattle.std.proofs.Common.{◌≡◌, not, map, string_bytes}
use Rattle.std.specs.Prelude.{is_some}
use Rattle.std.specs.List.{find}
use Rattle.toml.specs.View.{table_view}
use Rattle.description_reader.specs.Values.{keys_of_members}
use Rattle.fault_words.specs.Near.{known_key}
use Rattle.fault_words.proofs.meant.unknown_key.Given as goal

-- the keys so far are known
abbrev pub invariant-loop-key : goal.invariant-loop-key
invariant-loop-key l =
    find (λ name. not (is_some (known_key l.facts l.section name))) (keys_of_members (table_view l.table))
    ≡ find (λ name. not (is_some (known_key l.facts l.section name))) (map string_bytes l.key-iterator)
