use Rattle.std.proofs.Common.{◌≡◌, drop}
use Rattle.std.specs.Prelude.{is_some}
use Rattle.std.specs.List.{find}
use Rattle.fault_words.specs.Near.{named_key, home_of}
use Rattle.fault_words.proofs.home.home_of.Given as goal

-- those so far have no such key
abbrev pub invariant-loop-table : goal.invariant-loop-table
invariant-loop-table l = home_of l.fn.section l.name ≡ find (λ s. is_some (named_key s l.name)) (drop l.table-index l.table-items)
