use Rattle.std.proofs.Common.{◌≡◌, ◌+◌, ◌*◌, ◌<◌, ◌≤◌, ◌^◌, ℕ, unsigned_abs}
use Rattle.progression.specs.Street.{count}
use Rattle.progression.specs.Lines.{crossing, IsGreenAt}
use Rattle.time_space.proofs.diagram.first_blocked.Given as goal

-- every signal so far is green, and the line stands where it crosses the next
abbrev pub invariant-loop-place : goal.invariant-loop-place
invariant-loop-place l = record {
  here : l.place < count l.artery → l.line ≡ crossing l.artery l.timing l.dir l.place;
  near : unsigned_abs l.line ≤ (l.place + 1) * 2 ^ 93;
  green : (k : ℕ) → k < l.place → IsGreenAt l.artery l.timing l.dir k;
}
