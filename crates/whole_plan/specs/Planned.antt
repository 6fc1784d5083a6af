-- The widest plan in whole seconds that is found over several cycles, or why there is none.
use Rattle.std.specs.Prelude.{◌≡◌, ℕ, List, [], Option}
use Rattle.rational_theory.specs.Rational.{ℚ, ◌-ℚ◌}
use Rattle.narrow_fraction.specs.Past128.{Fits128, Past128}
use Rattle.narrow_fraction.specs.declared.wide.Op.TheVariants.{Sub}
use Rattle.narrow_fraction.specs.declared.wide.Wide.{Wide}
use Rattle.progression.specs.Street.{Street}
use Rattle.progression.specs.TimingRecord.{TimingRecord}
use Rattle.progression.specs.Best.{weighted_band}
use Rattle.second_plan.specs.declared.answer.Plan.{Plan as Answer}
use Rattle.second_plan.specs.declared.answer.PlanEnd.{PlanEnd}
use Rattle.second_plan.specs.declared.answer.PlanEnd.TheVariants as end
use Rattle.second_plan.specs.declared.answer.PlanFault.{PlanFault}
use Rattle.second_plan.specs.declared.answer.PlanFault.TheVariants as fault
use Rattle.whole_offsets.specs.declared.answer.OffsetPlan.{OffsetPlan}
use Rattle.whole_plan.specs.Choice.{IsChosen, IsBroken, IsEnded}

-- the plan that is chosen of these cycles, and what it loses against a claim
pub record IsWholePlan (a : Street) (claim : ℚ) (given : Option TimingRecord) (cycles : List ℕ) (p : Answer) : Type 0 where
  pub plan : OffsetPlan
  pub chosen : IsChosen a given cycles p.seconds plan
  pub offsets_are : p.offsets ≡ plan.offsets
  pub timing_is : p.timing ≡ plan.timing
  pub fits : Fits128 Sub claim (weighted_band a p.timing)
  pub loss : p.loss ≡ claim -ℚ weighted_band a p.timing

-- the chosen plan's loss leaves 128 bits
pub record IsPastLoss (a : Street) (claim : ℚ) (given : Option TimingRecord) (cycles : List ℕ) (w : Wide) : Type 0 where
  pub k : ℕ
  pub plan : OffsetPlan
  pub chosen : IsChosen a given cycles k plan
  pub wide : w ≡ record { op = Sub; left = claim; right = weighted_band a plan.timing }
  pub past : Past128 Sub claim (weighted_band a plan.timing)

-- the best set breaks this rule
abbrev pub Breaks : Street → Option TimingRecord → List ℕ → PlanEnd → Type 0
Breaks a given cycles e = (k : ℕ) × (q : OffsetPlan) × IsBroken a given cycles k q e

-- no cycle is left; or none has a set, for this reason the first; or none has a good plan; or the loss is too wide
abbrev pub Ends : Street → ℚ → Option TimingRecord → List ℕ → PlanEnd → Type 0
Ends a claim given cycles end.NoWholeCycle = cycles ≡ []
Ends a claim given cycles end.NoTimingGiven = IsEnded a given cycles end.NoTimingGiven
Ends a claim given cycles (end.TooFine ticks) = IsEnded a given cycles (end.TooFine ticks)
Ends a claim given cycles (end.NoLine d) = Breaks a given cycles (end.NoLine d)
Ends a claim given cycles (end.Fails f) = Breaks a given cycles (end.Fails f)
Ends a claim given cycles (end.Wide w) = IsPastLoss a claim given cycles w

-- want of memory may come in place of any answer
abbrev pub Faults : Street → ℚ → Option TimingRecord → List ℕ → PlanFault → Type 0
Faults a claim given cycles (fault.End e) = Ends a claim given cycles e
Faults a claim given cycles fault.Memory = Unit {0}
