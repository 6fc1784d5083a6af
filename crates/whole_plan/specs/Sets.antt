-- What comes of a cycle: a set of offsets with its plan, or why there is none.
use Rattle.std.specs.Prelude.{◌≡◌, ℕ, Option, Some, None, ◌⊎◌}
use Rattle.progression.specs.Street.{Street}
use Rattle.progression.specs.BaseRecord.{BaseRecord}
use Rattle.progression.specs.TimingRecord.{TimingRecord, base}
use Rattle.progression.specs.Good.{Good}
use Rattle.second_plan.specs.declared.answer.PlanEnd.{PlanEnd}
use Rattle.second_plan.specs.declared.answer.PlanEnd.TheVariants as end
use Rattle.second_plan.specs.declared.answer.PlanFault.TheVariants as fault
use Rattle.whole_offsets.specs.Offsets.{IsBestOfRuns}
use Rattle.whole_offsets.specs.Score.{IsScore}
use Rattle.whole_offsets.specs.Steady.{IsSteady, IsEndOf, IsSteadyFault}
use Rattle.whole_offsets.specs.declared.answer.OffsetPlan.{OffsetPlan}
use Rattle.whole_plan.specs.Sought.{IsStart}
use Rattle.whole_plan.specs.declared.setting.Outcome.{Outcome}
use Rattle.whole_plan.specs.declared.setting.Outcome.TheVariants.{OffsetSet, Ended}

-- offsets of k seconds from which no move leads to a better plan, begun from those nearest to the base's
pub record IsOffsetSetFrom (a : Street) (b : BaseRecord) (k : ℕ) (q : OffsetPlan) : Type 0 where
  pub steady : IsSteady a b k q.offsets.items q.timing
  pub score : IsScore a q.timing q.score
  pub end : IsEndOf a q.timing q.end
  pub best : Good a q.timing → IsBestOfRuns a q.timing

-- of the timing that was found at this cycle, or of the given one
pub record IsOffsetSet (a : Street) (given : Option TimingRecord) (k : ℕ) (q : OffsetPlan) : Type 0 where
  pub timing : TimingRecord
  pub start : IsStart a given k (Some timing)
  pub set : IsOffsetSetFrom a (base timing) k q

-- there is no timing to start from, or a number of the plan is too large for a timing
abbrev pub HasNoOffsetSet : Street → Option TimingRecord → ℕ → PlanEnd → Type 0
HasNoOffsetSet a given k e = (IsStart a given k None × (e ≡ end.NoTimingGiven)) ⊎ ((t : TimingRecord) × (IsStart a given k (Some t) × IsSteadyFault a (base t) k (fault.End e)))

-- what comes of a base, and of a cycle
abbrev pub IsOutcomeFrom : Street → BaseRecord → ℕ → Outcome → Type 0
IsOutcomeFrom a b k (OffsetSet q) = IsOffsetSetFrom a b k q
IsOutcomeFrom a b k (Ended e) = IsSteadyFault a b k (fault.End e)

abbrev pub IsOutcome : Street → Option TimingRecord → ℕ → Outcome → Type 0
IsOutcome a given k (OffsetSet q) = IsOffsetSet a given k q
IsOutcome a given k (Ended e) = HasNoOffsetSet a given k e
