use Rattle.std.proofs.Common.{◌≡◌, ◌+◌, ◌*◌, ◌<◌, ◌≤◌, ◌^◌, unsigned_abs, ◌+ℤ◌}
use Rattle.progression.specs.Street.{count}
use Rattle.mirror_theory.specs.Runs.{far}
use Rattle.half_integer.specs.HalfPlan.{red_tick}
use Rattle.half_integer.specs.Fitting.{IsListTo}
use Rattle.half_integer.proofs.build.reds.Given as goal

-- those of the signals so far, and the line stands where it crosses the next
abbrev pub invariant-loop-place : goal.invariant-loop-place
invariant-loop-place l = record {
  here : l.place < count l.artery → l.line ≡ l.first +ℤ far l.artery l.timing (l.place + 1);
  near : unsigned_abs l.line ≤ unsigned_abs l.first + (l.place + 1) * 2 ^ 94;
  reds : IsListTo (red_tick l.artery l.timing l.first) 1 l.place l.reds.items;
}
