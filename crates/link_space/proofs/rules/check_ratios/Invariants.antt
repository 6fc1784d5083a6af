use Rattle.std.proofs.Common.{ℕ, ◌≤◌, ◌<◌}
use Rattle.progression.specs.Good.{RatioHolds}
use Rattle.progression.specs.declared.parts.Dir.TheVariants.{Outbound, Inbound}
use Rattle.link_theory.specs.LinkRecord.{half}
use Rattle.link_space.proofs.rules.check_ratios.Given as goal

-- the halves of every link so far keep the ratio
abbrev pub invariant-loop-link : goal.invariant-loop-link
invariant-loop-link l = (k : ℕ) → 1 ≤ k → k < l.link → RatioHolds l.artery.head.ratio (half l.timing Outbound k) (half l.timing Inbound k)
