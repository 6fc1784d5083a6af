-- Offsets from which no move leads to a better plan, and what rule the plan breaks.
use Rattle.std.specs.Prelude.{◌≡◌, ℕ, List, Option, None, Some}
use Rattle.progression.specs.Street.{Street}
use Rattle.progression.specs.BaseRecord.{BaseRecord}
use Rattle.progression.specs.TimingRecord.{TimingRecord}
use Rattle.progression.specs.Good.{Good}
use Rattle.progression.specs.declared.parts.Dir.TheVariants.{Outbound, Inbound}
use Rattle.time_space.specs.FirstFailing.{IsFirstFailing}
use Rattle.time_space.specs.declared.failing.Failing.{Failing}
use Rattle.time_space.specs.declared.failing.Failing.TheVariants as failing
use Rattle.second_plan.specs.Seconds.{AreOffsets}
use Rattle.second_plan.specs.declared.answer.PlanEnd.{PlanEnd}
use Rattle.second_plan.specs.declared.answer.PlanEnd.TheVariants as end
use Rattle.second_plan.specs.declared.answer.PlanFault.{PlanFault}
use Rattle.second_plan.specs.declared.answer.PlanFault.TheVariants as fault
use Rattle.whole_offsets.specs.Scale.{too_large}
use Rattle.whole_offsets.specs.Offsets.{AreWithin, IsPlanOf}
use Rattle.whole_offsets.specs.Moves.{IsMove}
use Rattle.whole_offsets.specs.Score.{IsBetterPlan}

-- The plan of the offsets in a cycle of k seconds. The plan of no move from them is better, nor is that of the offsets nearest to b's. Each of these
-- offsets has a plan (`try_offsets` makes it, but for want of memory), and all plans of the same offsets are as good.
pub record IsSteady (a : Street) (b : BaseRecord) (k : ℕ) (offsets : List ℕ) (p : TimingRecord) : Type 0 where
  pub fine : too_large a b k ≡ None
  pub within : AreWithin a k offsets
  pub plan : IsPlanOf a b k offsets p
  pub steady : (other : List ℕ) (q : TimingRecord) → IsMove k offsets other → IsPlanOf a b k other q → ¬ IsBetterPlan a q p
  pub first : List ℕ
  pub nearest : AreOffsets a b k first
  pub no_worse : (q : TimingRecord) → IsPlanOf a b k first q → ¬ IsBetterPlan a q p

-- a band that isn't green all the way has no line
abbrev pub end_of : Failing → PlanEnd
end_of (failing.Outbound i tick) = end.NoLine Outbound
end_of (failing.Inbound i tick) = end.NoLine Inbound
end_of f = end.Fails f

-- none exactly where the plan is good, else the first rule that it breaks
abbrev pub IsEndOf : Street → TimingRecord → Option PlanEnd → Type 0
IsEndOf a p None = Good a p
IsEndOf a p (Some e) = (f : Failing) × (IsFirstFailing a p f × (e ≡ end_of f))

-- some number is too large, this the first; or want of memory
abbrev pub IsSteadyFault : Street → BaseRecord → ℕ → PlanFault → Type 0
IsSteadyFault a b k (fault.End (end.TooFine ticks)) = too_large a b k ≡ Some ticks
IsSteadyFault a b k (fault.End e) = ⊥
IsSteadyFault a b k fault.Memory = Unit {0}
