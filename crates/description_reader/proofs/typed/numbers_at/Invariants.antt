use Rattle.std.proofs.Common.{◌≡◌, ◌++◌, map, drop}
use Rattle.toml.specs.View.{view}
use Rattle.description_reader.specs.Quantity.{number_in}
use Rattle.description_reader.proofs.typed.numbers_at.Given as goal

-- the numbers so far, and those of the items that are left
abbrev pub invariant-loop-item : goal.invariant-loop-item
invariant-loop-item l = map number_in (map view l.item-items) ≡ l.numbers.items ++ map number_in (map view (drop l.item-index l.item-items))
