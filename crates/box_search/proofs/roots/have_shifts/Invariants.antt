use Rattle.std.proofs.Common.{ℕ, ◌<◌, ◌≤◌}
use Rattle.linear_theory.specs.Shifts.{shift_count}
use Rattle.box_search.proofs.roots.have_shifts.Given as goal

-- each signal so far has one
abbrev pub invariant-loop-signal : goal.invariant-loop-signal
invariant-loop-signal l = record {
  some : (i : ℕ) → 1 ≤ i → i < l.signal → 1 ≤ shift_count l.artery i;
}
