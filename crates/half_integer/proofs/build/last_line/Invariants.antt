use Rattle.std.proofs.Common.{◌≡◌, ◌+◌, ◌*◌, ◌≤◌, ◌^◌, unsigned_abs, ◌+ℤ◌}
use Rattle.mirror_theory.specs.Runs.{far}
use Rattle.half_integer.proofs.build.last_line.Given as goal

-- the line stands where it crosses this signal
abbrev pub invariant-loop-signal : goal.invariant-loop-signal
invariant-loop-signal l = record {
  here : l.line ≡ l.first +ℤ far l.artery l.timing l.signal;
  near : unsigned_abs l.line ≤ unsigned_abs l.first + l.signal * 2 ^ 94;
}
