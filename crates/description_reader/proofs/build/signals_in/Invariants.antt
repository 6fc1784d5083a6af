use Rattle.std.proofs.Common.{◌≡◌, ◌++◌, map, drop}
use Rattle.toml.specs.View.{view}
use Rattle.description_reader.specs.Streets.{signal_in}
use Rattle.description_reader.proofs.build.signals_in.Given as goal

-- the signals so far, and those of the tables that are left
abbrev pub invariant-loop-table : goal.invariant-loop-table
invariant-loop-table l = map signal_in (map view l.tables) ≡ l.signals.items ++ map signal_in (map view (drop l.table-index l.tables))
