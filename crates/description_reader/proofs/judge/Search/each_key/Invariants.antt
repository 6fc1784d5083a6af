use Rattle.std.proofs.Common.{◌≡◌, map, drop}
use Rattle.toml.specs.View.{view}
use Rattle.artery_model.specs.Faults.{first_fault}
use Rattle.description_reader.specs.Judgement.{key_fault}
use Rattle.description_reader.specs.KeyTable.{key_of, keys_of}
use Rattle.description_reader.proofs.judge.Search.each_key.Given as goal

-- the values at the keys so far have no fault of the kind
abbrev pub invariant-loop-entry : goal.invariant-loop-entry
invariant-loop-entry l =
    first_fault (map (key_fault l.self.stage l.self.facts l.section (view l.table)) (keys_of l.section))
    ≡ first_fault (map (key_fault l.self.stage l.self.facts l.section (view l.table)) (map key_of (drop l.entry-index l.entry-items)))
