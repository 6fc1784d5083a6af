use Rattle.std.proofs.Common.{◌≡◌}
use Rattle.std.specs.Prelude.{None}
use Rattle.whole_offsets.specs.Scale.{large_run}
use Rattle.whole_offsets.proofs.scale.large_run.Given as goal

abbrev pub invariant-loop-place : goal.invariant-loop-place
invariant-loop-place l = large_run l.artery l.dir l.grid l.place ≡ None
