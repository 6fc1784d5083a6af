-- The four limits of a run on a link: the greatest and the least speed, and how much the pace may rise and drop to the next link.
use Rattle.std.specs.Prelude.{ℕ, ◌+◌, ◌<◌, ◌≤◌, IfSome}
use Rattle.rational_theory.specs.Rational.{◌*ℚ◌, ◌≤ℚ◌}
use Rattle.progression.specs.Street.{Street, HasLink}
use Rattle.progression.specs.Speeds.{number, run_low, run_high, change}
use Rattle.progression.specs.BaseRecord.{BaseRecord, run}
use Rattle.progression.specs.Good.{pace_change}
use Rattle.progression.specs.declared.parts.Pair.{Pair}
use Rattle.progression.specs.declared.parts.Dir.{Dir}
use Rattle.time_space.specs.declared.links.LinkRule.{LinkRule}
use Rattle.time_space.specs.declared.links.LinkRule.TheVariants as rule

-- the change of pace from the link keeps a limit, where the link gives limits; the rules of speeds set none
abbrev pub ChangeWithin : Street → BaseRecord → LinkRule → Dir → ℕ → Pair → Type 0
ChangeWithin a b rule.Rise d i c = pace_change a b d i ≤ℚ (c.most *ℚ number b.grid)
ChangeWithin a b rule.Drop d i c = (c.least *ℚ number b.grid) ≤ℚ pace_change a b d i
ChangeWithin a b r d i c = Unit {0}

abbrev pub ChangeKept : Street → BaseRecord → LinkRule → Dir → ℕ → Type 0
ChangeKept a b r d i = IfSome (change a d i) (ChangeWithin a b r d i)

abbrev pub LinkHolds : Street → BaseRecord → LinkRule → Dir → ℕ → Type 0
LinkHolds a b rule.Fast d i = (run_low a d i *ℚ number b.grid) ≤ℚ number (run b d i)
LinkHolds a b rule.Slow d i = number (run b d i) ≤ℚ (run_high a d i *ℚ number b.grid)
LinkHolds a b rule.Rise d i = HasLink a (i + 1) → ChangeKept a b rule.Rise d i
LinkHolds a b rule.Drop d i = HasLink a (i + 1) → ChangeKept a b rule.Drop d i

-- the limit isn't kept
abbrev pub LinkBreaks : Street → BaseRecord → LinkRule → Dir → ℕ → Type 0
LinkBreaks a b rule.Fast d i = ¬ ((run_low a d i *ℚ number b.grid) ≤ℚ number (run b d i))
LinkBreaks a b rule.Slow d i = ¬ (number (run b d i) ≤ℚ (run_high a d i *ℚ number b.grid))
LinkBreaks a b rule.Rise d i = HasLink a (i + 1) × (¬ ChangeKept a b rule.Rise d i)
LinkBreaks a b rule.Drop d i = HasLink a (i + 1) × (¬ ChangeKept a b rule.Drop d i)

-- every link of the direction keeps the limit
abbrev pub AllLinks : Street → BaseRecord → LinkRule → Dir → Type 0
AllLinks a b r d = (i : ℕ) → HasLink a i → LinkHolds a b r d i

-- the least link of the direction that doesn't keep the limit
pub record IsFirstBroken (a : Street) (b : BaseRecord) (r : LinkRule) (d : Dir) (i : ℕ) : Type 0 where
  pub has : HasLink a i
  pub breaks : LinkBreaks a b r d i
  pub kept_before : (k : ℕ) → 1 ≤ k → k < i → LinkHolds a b r d k
