use Rattle.std.proofs.Common.{◌≡◌, map, take}
use Rattle.toml.specs.View.{view}
use Rattle.description_reader.specs.Canonical.{patterns_from}
use Rattle.description_reader.proofs.print.patterns_value.Given as goal

abbrev pub invariant-loop-index : goal.invariant-loop-index
invariant-loop-index l = map view l.numbers.items ≡ patterns_from 1 (take l.index l.patterns)
