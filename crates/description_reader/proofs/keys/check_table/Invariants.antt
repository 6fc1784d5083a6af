use Rattle.std.proofs.Common.{◌≡◌, map, string_bytes}
use Rattle.toml.specs.View.{table_view}
use Rattle.artery_model.specs.Faults.{first_fault}
use Rattle.description_reader.specs.Values.{keys_of_members}
use Rattle.description_reader.specs.Keys.{unknown_fault}
use Rattle.description_reader.proofs.keys.check_table.Given as goal

-- the keys so far are known
abbrev pub invariant-loop-key : goal.invariant-loop-key
invariant-loop-key l =
    first_fault (map (unknown_fault l.facts l.section) (keys_of_members (table_view l.table)))
    ≡ first_fault (map (unknown_fault l.facts l.section) (map string_bytes l.key-iterator))
