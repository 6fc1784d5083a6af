use Rattle.std.proofs.Common.{◌≡◌, map, take}
use Rattle.toml.specs.View.{view}
use Rattle.description_reader.specs.Canonical.{link_data}
use Rattle.description_reader.proofs.print.links_value.Given as goal

abbrev pub invariant-loop-link : goal.invariant-loop-link
invariant-loop-link l = map view l.tables.items ≡ map link_data (take l.link-index l.links)
