use Rattle.std.proofs.Common.{◌≡◌, ◌++◌, ◌-◌, ◌≤◌}
use Rattle.std.specs.List.{flat_map, range_with_len}
use Rattle.street_words.specs.Warnings.{told, name_warnings}
use Rattle.street_words.proofs.warnings.push_of_names.Given as goal

abbrev pub invariant-loop-signal : goal.invariant-loop-signal
invariant-loop-signal l = (1 ≤ l.signal) × (l.out.items ≡ l.fn.out.items ++ flat_map (told l.artery) (flat_map name_warnings (range_with_len 1 (l.signal - 1))))
