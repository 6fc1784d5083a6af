use Rattle.std.proofs.Common.{◌≡◌, ◌++◌, ◌-◌, ◌≤◌}
use Rattle.std.specs.List.{flat_map, range_with_len}
use Rattle.timing_sheet.specs.Records.{record_text}
use Rattle.timing_sheet.proofs.table.push_records.Given as goal

-- the records of the signals so far
abbrev pub invariant-loop-signal : goal.invariant-loop-signal
invariant-loop-signal l = (1 ≤ l.signal) × (l.out.items ≡ l.fn.out.items ++ flat_map (record_text l.artery l.timing l.reference) (range_with_len 1 (l.signal - 1)))
