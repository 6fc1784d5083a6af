use Rattle.std.proofs.Common.{◌≡◌, ℕ, ◌-◌, ◌<◌, ◌≤◌, map}
use Rattle.progression.specs.Columns.{numbered}
use Rattle.linear_theory.specs.Shifts.{shift_count}
use Rattle.linear_theory.specs.Boxes.{root_ranks}
use Rattle.search_box.specs.Seen.{ranks_of}
use Rattle.search_box.proofs.root.root_turns.Given as goal

-- those of the signals so far, and each of these has a shift
abbrev pub invariant-loop-signal : goal.invariant-loop-signal
invariant-loop-signal l = record {
  items : map ranks_of l.turns.items ≡ numbered (l.signal - 1) 1 (root_ranks l.artery);
  some : (i : ℕ) → 1 ≤ i → i < l.signal → 1 ≤ shift_count l.artery i;
}
