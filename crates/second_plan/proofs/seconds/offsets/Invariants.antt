use Rattle.std.proofs.Common.{◌≡◌, ◌+◌, ◌<◌, ℕ, length, get_or}
use Rattle.std.specs.Prelude.{All}
use Rattle.second_plan.specs.Seconds.{IsOffset}
use Rattle.second_plan.proofs.seconds.offsets.Given as goal

-- those of the signals so far
abbrev pub invariant-loop-place : goal.invariant-loop-place
invariant-loop-place l = record {
  long : length l.offsets.items ≡ l.place;
  each : (i : ℕ) → i < l.place → IsOffset l.artery l.base l.seconds (i + 1) (get_or l.offsets.items i 0);
  below : All (λ n. n < l.seconds) l.offsets.items;
}
