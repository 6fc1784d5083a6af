use Rattle.std.proofs.Common.{◌≡◌, ◌+◌, ◌*◌, ◌<◌, ◌≤◌, ◌^◌, pos, unsigned_abs, ◌+ℤ◌}
use Rattle.progression.specs.Street.{count}
use Rattle.mirror_theory.specs.Runs.{far}
use Rattle.half_integer.specs.Bands.{IsTriedTo, IsRun, IsBandWithin}
use Rattle.half_integer.proofs.search.best_candidate.Given as goal

-- the candidates of the signals so far are tried
abbrev pub invariant-loop-place : goal.invariant-loop-place
invariant-loop-place l = record {
  here : l.place < count l.artery → l.line ≡ pos 0 +ℤ far l.artery l.timing (l.place + 1);
  near : unsigned_abs l.line ≤ (l.place + 1) * 2 ^ 94;
  runs : IsRun l.artery l.timing l.best;
  within : IsBandWithin l.best;
  tried : IsTriedTo l.artery l.timing l.best l.place;
}
