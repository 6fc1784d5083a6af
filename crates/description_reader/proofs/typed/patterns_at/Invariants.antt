use Rattle.std.proofs.Common.{◌≡◌, ◌++◌, map, drop}
use Rattle.toml.specs.View.{view}
use Rattle.description_reader.specs.Quantity.{integer_in}
use Rattle.description_reader.specs.Streets.{u32_or_zero}
use Rattle.description_reader.proofs.typed.patterns_at.Given as goal

-- the patterns so far, and those of the items that are left
abbrev pub invariant-loop-item : goal.invariant-loop-item
invariant-loop-item l =
    map (λ v. u32_or_zero (integer_in v)) (map view l.item-items) ≡ l.patterns.items ++ map (λ v. u32_or_zero (integer_in v)) (map view (drop l.item-index l.item-items))
