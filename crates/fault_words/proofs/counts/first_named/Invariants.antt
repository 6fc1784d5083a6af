use Rattle.std.proofs.Common.{◌≡◌, ◌+◌, map, drop}
use Rattle.toml.specs.View.{view}
use Rattle.fault_words.specs.FaultWords.{first_named}
use Rattle.fault_words.proofs.counts.first_named.Given as goal

-- those so far have another name
abbrev pub invariant-loop-index : goal.invariant-loop-index
invariant-loop-index l = first_named l.name 1 (map view l.fn.tables) ≡ first_named l.name (l.index + 1) (map view (drop l.index l.fn.tables))
