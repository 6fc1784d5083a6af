-- The order of the failings: by rule, then outbound before inbound, then by place.
use Rattle.std.specs.Prelude.{◌≡◌, ℕ, ◌-◌, ◌≤◌}
use Rattle.progression.specs.Street.{Street, count}
use Rattle.progression.specs.BaseRecord.{BaseRecord}
use Rattle.progression.specs.TimingRecord.{TimingRecord}
use Rattle.progression.specs.declared.parts.Dir.{Dir}
use Rattle.progression.specs.declared.parts.Dir.TheVariants.{Outbound, Inbound}
use Rattle.time_space.specs.Failing.{BaseFails, Fails}
use Rattle.time_space.specs.declared.links.LinkRule.{LinkRule}
use Rattle.time_space.specs.declared.links.LinkRule.TheVariants as rule
use Rattle.time_space.specs.declared.failing.Failing.{Failing}
use Rattle.time_space.specs.declared.failing.Failing.TheVariants as failing

-- the place of its rule in the order of the rules
abbrev pub rule_order : Failing → ℕ
rule_order failing.Shape = 0
rule_order (failing.Pattern i) = 1
rule_order failing.CycleShort = 2
rule_order failing.CycleLong = 3
rule_order (failing.Fast d i) = 4
rule_order (failing.Slow d i) = 5
rule_order (failing.Rise d i) = 6
rule_order (failing.Drop d i) = 7
rule_order failing.Ratio = 8
rule_order (failing.Least d) = 9
rule_order failing.Equal = 10
rule_order (failing.Outbound i tick) = 11
rule_order (failing.Inbound i tick) = 12

abbrev pub dir_order : Dir → ℕ
dir_order Outbound = 0
dir_order Inbound = 1

-- outbound before inbound, where the failing has a direction
abbrev pub direction_order : Failing → ℕ
direction_order (failing.Fast d i) = dir_order d
direction_order (failing.Slow d i) = dir_order d
direction_order (failing.Rise d i) = dir_order d
direction_order (failing.Drop d i) = dir_order d
direction_order (failing.Least d) = dir_order d
direction_order f = 0

-- the number of its signal or link; inbound bands go from the last signal down
abbrev pub place_order : Street → Failing → ℕ
place_order a (failing.Pattern i) = i
place_order a (failing.Fast d i) = i
place_order a (failing.Slow d i) = i
place_order a (failing.Rise d i) = i
place_order a (failing.Drop d i) = i
place_order a (failing.Outbound i tick) = i
place_order a (failing.Inbound i tick) = count a - i
place_order a f = 0

-- f doesn't come after g: not by its rule, where these are the same not by its direction, and where that is so too not by its place
pub record IsNoLater (a : Street) (f g : Failing) : Type 0 where
  pub rule : rule_order f ≤ rule_order g
  pub direction : rule_order f ≡ rule_order g → direction_order f ≤ direction_order g
  pub place : rule_order f ≡ rule_order g → direction_order f ≡ direction_order g → place_order a f ≤ place_order a g

-- of the failings that fail it is one, and none comes before it
pub record IsFirstOf (a : Street) (Fail : Failing → Type 0) (f : Failing) : Type 0 where
  pub fails : Fail f
  pub first : (g : Failing) → Fail g → IsNoLater a f g

abbrev pub IsFirstBaseFailing : Street → BaseRecord → Failing → Type 0
IsFirstBaseFailing a b = IsFirstOf a (BaseFails a b)

abbrev pub IsFirstFailing : Street → TimingRecord → Failing → Type 0
IsFirstFailing a t = IsFirstOf a (Fails a t)

-- none that fails is of a rule before the n-th
abbrev pub NoneBefore : (Failing → Type 0) → ℕ → Type 0
NoneBefore Fail n = (g : Failing) → Fail g → n ≤ rule_order g

abbrev pub link_order : LinkRule → ℕ
link_order rule.Fast = 4
link_order rule.Slow = 5
link_order rule.Rise = 6
link_order rule.Drop = 7

abbrev pub link_failing : LinkRule → Dir → ℕ → Failing
link_failing rule.Fast d i = failing.Fast d i
link_failing rule.Slow d i = failing.Slow d i
link_failing rule.Rise d i = failing.Rise d i
link_failing rule.Drop d i = failing.Drop d i

-- of a timing at most one failing is the first
abbrev pub OneFirst : Type 0
OneFirst = (a : Street) (t : TimingRecord) (f g : Failing) → IsFirstFailing a t f → IsFirstFailing a t g → f ≡ g
