-- What the type of an artery keeps: that no test fails, and what follows for the sizes of the numbers.
use Rattle.std.specs.Prelude.{◌≡◌, ℕ, ◌+◌, ◌<◌, ◌≤◌, length, All, Option, Some, None, ℤ, pos, ◌*ℤ◌, ◌≤ℤ◌, unsigned_abs, false}
use Rattle.rational_theory.specs.Rational.{ℚ, whole, ◌≤ℚ◌}
use Rattle.progression.specs.Street.{Street, count}
use Rattle.progression.specs.declared.parts.Signal.{Signal}
use Rattle.progression.specs.declared.parts.Link.{Link}
use Rattle.progression.specs.declared.parts.Pair.{Pair}
use Rattle.artery_model.specs.Bounds.{first_version, second_version, least_signals, most_signals, most_first_signals, least_share, most_share, least_parts, most_parts, least_distance, most_distance, least_speed, most_speed, least_cycle, most_cycle, least_change, most_change, least_ratio, most_ratio, most_numerator, most_denominator}
use Rattle.artery_model.specs.Limits.{artery_fault}

-- a quantity between two whole numbers, its numerator and denominator of a bounded size
pub record IsQuantity (low high : ℤ) (q : ℚ) : Type 0 where
  pub num : unsigned_abs q.num ≤ most_numerator
  pub den : q.den ≤ most_denominator
  pub least : (low *ℤ pos q.den) ≤ℤ q.num
  pub most : q.num ≤ℤ (high *ℤ pos q.den)

pub record IsPair (low high : ℤ) (p : Pair) : Type 0 where
  pub least : IsQuantity low high p.least
  pub most : IsQuantity low high p.most
  pub order : p.least ≤ℚ p.most

-- limits of a speed, and of a change of pace
abbrev pub IsSpeeds : Pair → Type 0
IsSpeeds p = IsPair least_speed most_speed p

abbrev pub IsChange : Option Pair → Type 0
IsChange None = Unit {0}
IsChange (Some p) = IsPair least_change most_change p

-- limits of a change of pace in seconds per metre or foot
pub record IsPaces (p : Pair) : Type 0 where
  pub least_num : unsigned_abs p.least.num ≤ most_numerator
  pub least_den : p.least.den ≤ 5280000
  pub most_num : unsigned_abs p.most.num ≤ most_numerator
  pub most_den : p.most.den ≤ 5280000

-- each direction of the signal has some red and some green
pub record IsSignal (parts : ℕ) (s : Signal) : Type 0 where
  pub red : 1 ≤ s.red
  pub green_out : s.red + s.left_in < parts
  pub green_in : s.red + s.left_out < parts
  pub clear_out : s.clear_out < parts
  pub clear_in : s.clear_in < parts

pub record IsLink (l : Link) : Type 0 where
  pub least_out : least_distance ≤ l.distance_out
  pub most_out : l.distance_out ≤ most_distance
  pub least_in : least_distance ≤ l.distance_in
  pub most_in : l.distance_in ≤ most_distance
  pub speed_out : IsSpeeds l.speed_out
  pub speed_in : IsSpeeds l.speed_in
  pub change_out : IsChange l.change_out
  pub change_in : IsChange l.change_in

-- what the first version has not
pub record IsOfFirst (a : Street) : Type 0 where
  pub many : count a ≤ most_first_signals
  pub least_out : a.head.least_out ≡ whole (pos 0)
  pub least_in : a.head.least_in ≡ whole (pos 0)
  pub equal : a.head.equal ≡ false

pub record IsValid (a : Street) : Type 0 where
  pub least_parts : least_parts ≤ a.head.parts
  pub most_parts : a.head.parts ≤ most_parts
  pub version_least : first_version ≤ a.head.version
  pub version_most : a.head.version ≤ second_version
  pub few : least_signals ≤ count a
  pub many : count a ≤ most_signals
  pub one_fewer : length a.links + 1 ≡ count a
  pub each_signal : All (IsSignal a.head.parts) a.signals
  pub each_link : All IsLink a.links
  pub cycle : IsPair least_cycle most_cycle a.head.cycle
  pub ratio : IsQuantity least_ratio most_ratio a.head.ratio
  pub least_out : IsQuantity least_share most_share a.head.least_out
  pub least_in : IsQuantity least_share most_share a.head.least_in
  pub first : a.head.version ≡ first_version → IsOfFirst a
  pub no_fault : artery_fault a ≡ None
