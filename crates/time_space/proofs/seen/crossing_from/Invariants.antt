use Rattle.std.proofs.Common.{◌≡◌, ◌+◌, ◌*◌, ◌≤◌, ◌^◌, unsigned_abs}
use Rattle.progression.specs.Lines.{crossing_from}
use Rattle.time_space.proofs.seen.crossing_from.Given as goal

-- the line stands where it crosses the signal that it has come to
abbrev pub invariant-loop-step : goal.invariant-loop-step
invariant-loop-step l = record {
  here : l.line ≡ crossing_from l.artery l.base l.dir l.first l.step;
  near : unsigned_abs l.line ≤ (l.step + 1) * 2 ^ 93;
}
