use Rattle.std.proofs.Common.{◌≡◌, ◌+◌, ◌*◌, ◌<◌, ◌≤◌, ◌^◌, unsigned_abs, ◌+ℤ◌}
use Rattle.progression.specs.Street.{count}
use Rattle.mirror_theory.specs.Runs.{far}
use Rattle.half_integer.specs.Bands.{fullest}
use Rattle.half_integer.proofs.search.fullest.Given as goal

-- the fullest so far, and the line stands where it crosses the next signal
abbrev pub invariant-loop-place : goal.invariant-loop-place
invariant-loop-place l = record {
  here : l.place < count l.artery → l.line ≡ l.first +ℤ far l.artery l.timing (l.place + 1);
  near : unsigned_abs l.line ≤ unsigned_abs l.first + (l.place + 1) * 2 ^ 94;
  most : l.most ≡ fullest l.artery l.timing l.first l.place;
  small : l.most < 2 ^ 95;
}
