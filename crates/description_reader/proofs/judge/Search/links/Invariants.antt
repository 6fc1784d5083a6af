use Rattle.std.proofs.Common.{◌≡◌, ◌+◌, map, drop}
use Rattle.toml.specs.View.{view}
use Rattle.artery_model.specs.Faults.{first_fault, each_numbered}
use Rattle.description_reader.specs.Judgement.{in_table}
use Rattle.description_reader.specs.declared.place.Section.TheVariants.{Link}
use Rattle.description_reader.proofs.judge.Search.links.Given as goal

-- the links so far have no fault of the kind
abbrev pub invariant-loop-index : goal.invariant-loop-index
invariant-loop-index l =
    first_fault (each_numbered (λ i. in_table l.self.stage l.self.facts (Link i)) 1 (map view l.links))
    ≡ first_fault (each_numbered (λ i. in_table l.self.stage l.self.facts (Link i)) (l.index + 1) (map view (drop l.index l.links)))
