use Rattle.std.proofs.Common.{ℕ, ◌≤◌, ◌<◌}
use Rattle.time_space.specs.LinkRules.{LinkHolds}
use Rattle.time_space.proofs.links.first_broken.Given as goal

-- every link so far keeps the limit
abbrev pub invariant-loop-link : goal.invariant-loop-link
invariant-loop-link l = (k : ℕ) → 1 ≤ k → k < l.link → LinkHolds l.artery l.base l.rule l.dir k
