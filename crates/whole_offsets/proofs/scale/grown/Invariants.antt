use Rattle.std.proofs.Common.{◌≡◌, ◌<◌, ◌≤◌, ◌^◌}
use Rattle.whole_offsets.specs.Scale.{grown}
use Rattle.whole_offsets.proofs.scale.grown.Given as goal

abbrev pub invariant-loop-place : goal.invariant-loop-place
invariant-loop-place l = record {
  value : l.multiple ≡ grown l.artery l.dir l.before l.place;
  some : 1 ≤ l.multiple;
  small : l.multiple < 2 ^ 102;
}
