use Rattle.std.proofs.Common.{ℕ, ◌≤◌, ◌<◌}
use Rattle.link_space.specs.LinkGreens.{IsGreenLink}
use Rattle.link_space.proofs.greens.first_blocked.Given as goal

-- the bands of every link so far are green
abbrev pub invariant-loop-link : goal.invariant-loop-link
invariant-loop-link l = (k : ℕ) → 1 ≤ k → k < l.link → IsGreenLink l.artery l.timing l.dir k
