use Rattle.std.proofs.Common.{◌≡◌, ◌+◌, map, drop}
use Rattle.toml.specs.View.{view}
use Rattle.artery_model.specs.Faults.{first_fault, each_numbered}
use Rattle.description_reader.specs.Checks.{item_fault}
use Rattle.description_reader.proofs.check.TableCheck.items.Given as goal

-- the items so far are what they must be
abbrev pub invariant-loop-index : goal.invariant-loop-index
invariant-loop-index l =
    first_fault (each_numbered (item_fault l.self.kind l.self.parts l.self.section l.demand l.name) 1 (map view l.items))
    ≡ first_fault (each_numbered (item_fault l.self.kind l.self.parts l.self.section l.demand l.name) (l.index + 1) (map view (drop l.index l.items)))
