use Rattle.std.proofs.Common.{◌≡◌, ◌++◌, map, drop}
use Rattle.toml.specs.View.{view}
use Rattle.description_reader.specs.Streets.{link_in}
use Rattle.description_reader.proofs.build.links_in.Given as goal

-- the links so far, and those of the tables that are left
abbrev pub invariant-loop-table : goal.invariant-loop-table
invariant-loop-table l = map link_in (map view l.tables) ≡ l.links.items ++ map link_in (map view (drop l.table-index l.tables))
