-- Why there is no plan, in the order of the tests.
use Rattle.std.specs.Prelude.{◌≡◌, ℕ, List, Some}
use Rattle.rational_theory.specs.Rational.{ℚ}
use Rattle.narrow_fraction.specs.Past128.{Past128}
use Rattle.narrow_fraction.specs.declared.wide.Op.TheVariants.{Sub}
use Rattle.narrow_fraction.specs.declared.wide.Wide.{Wide}
use Rattle.progression.specs.Street.{Street}
use Rattle.progression.specs.BaseRecord.{BaseRecord}
use Rattle.progression.specs.TimingRecord.{TimingRecord}
use Rattle.progression.specs.Good.{IsBase, Good}
use Rattle.progression.specs.Best.{weighted_band}
use Rattle.progression.specs.declared.parts.Dir.{Dir}
use Rattle.progression.specs.declared.parts.Dir.TheVariants.{Outbound, Inbound}
use Rattle.artery_model.specs.Valid.{IsValid}
use Rattle.time_space.specs.FirstFailing.{IsFirstFailing}
use Rattle.time_space.specs.declared.failing.Failing.{Failing}
use Rattle.time_space.specs.declared.failing.Failing.TheVariants.{Least}
use Rattle.band_measure.specs.Widest.{NoneRuns}
use Rattle.second_plan.specs.Seconds.{IsWholeCycle, IsSeconds}
use Rattle.second_plan.specs.Grid.{in_seconds, too_fine}
use Rattle.second_plan.specs.Planned.{AreWhole, IsPlanned, IsAnswer}
use Rattle.second_plan.specs.declared.answer.Plan.{Plan as Answer}
use Rattle.second_plan.specs.declared.answer.PlanEnd.{PlanEnd}
use Rattle.second_plan.specs.declared.answer.PlanEnd.TheVariants as end
use Rattle.second_plan.specs.declared.answer.PlanFault.{PlanFault}
use Rattle.second_plan.specs.declared.answer.PlanFault.TheVariants as fault

-- this number of the plan, and none before it, leaves what a timing can hold
pub record IsTooFine (a : Street) (b : BaseRecord) (ticks : ℕ) : Type 0 where
  pub k : ℕ
  pub seconds : IsSeconds a b k
  pub first : too_fine a b k ≡ Some ticks

-- at the rounded offsets no line of this direction passes, and if it is the inbound one some outbound line does
pub record HasNoLine (a : Street) (b : BaseRecord) (d : Dir) : Type 0 where
  pub k : ℕ
  pub offsets : List ℕ
  pub whole : AreWhole a b k offsets
  pub none : NoneRuns a (in_seconds a b k offsets) d
  pub before : d ≡ Inbound → ¬ NoneRuns a (in_seconds a b k offsets) Outbound

-- the plan fails, first by a least band
pub record IsRefused (a : Street) (b : BaseRecord) (f : Failing) : Type 0 where
  pub k : ℕ
  pub offsets : List ℕ
  pub plan : TimingRecord
  pub planned : IsPlanned a b k offsets plan
  pub first : IsFirstFailing a plan f
  pub dir : Dir
  pub least : f ≡ Least dir

-- the plan is good, and its loss leaves 128 bits
pub record IsPastLoss (a : Street) (claim : ℚ) (b : BaseRecord) (w : Wide) : Type 0 where
  pub k : ℕ
  pub offsets : List ℕ
  pub plan : TimingRecord
  pub planned : IsPlanned a b k offsets plan
  pub good : Good a plan
  pub wide : w ≡ record { op = Sub; left = claim; right = weighted_band a plan }
  pub past : Past128 Sub claim (weighted_band a plan)

abbrev pub Ends : Street → ℚ → BaseRecord → PlanEnd → Type 0
Ends a claim b end.NoTimingGiven = ⊥
Ends a claim b end.NoWholeCycle = (k : ℕ) → ¬ IsWholeCycle a k
Ends a claim b (end.TooFine ticks) = IsTooFine a b ticks
Ends a claim b (end.NoLine d) = HasNoLine a b d
Ends a claim b (end.Fails f) = IsRefused a b f
Ends a claim b (end.Wide w) = IsPastLoss a claim b w

-- want of memory may come in place of any answer
abbrev pub Faults : Street → ℚ → BaseRecord → PlanFault → Type 0
Faults a claim b (fault.End e) = Ends a claim b e
Faults a claim b fault.Memory = Unit {0}

-- Of a base that keeps the rules at most one end comes, none comes where there is a plan, and the plan's numbers are determined.
abbrev pub OneEnd : Type 0
OneEnd = (a : Street) (claim : ℚ) (b : BaseRecord) (e f : PlanEnd) → IsValid a → IsBase a b → Ends a claim b e → Ends a claim b f → e ≡ f

abbrev pub PlanOrEnd : Type 0
PlanOrEnd = (a : Street) (claim : ℚ) (b : BaseRecord) (p : Answer) (e : PlanEnd) → IsValid a → IsBase a b → IsAnswer a claim b p → ¬ Ends a claim b e

abbrev pub OnePlan : Type 0
OnePlan = (a : Street) (claim : ℚ) (b : BaseRecord) (p q : Answer) → IsValid a → IsBase a b → IsAnswer a claim b p → IsAnswer a claim b q
    → (p.seconds ≡ q.seconds) × (p.offsets.items ≡ q.offsets.items) × (p.timing ≡ q.timing) × (p.loss ≡ q.loss)
