-- Which of the sets of several cycles is chosen: of those whose plan is good the one of the widest weighted band, else the best.
use Rattle.std.specs.Prelude.{◌≡◌, ℕ, List, [], ◌∷◌, ◌++◌, All, Contains, Option, Some, None, IfSome, ◌⊎◌}
use Rattle.rational_theory.specs.Rational.{ℚ, ◌≤ℚ◌, ◌<ℚ◌}
use Rattle.progression.specs.Street.{Street}
use Rattle.progression.specs.TimingRecord.{TimingRecord}
use Rattle.progression.specs.Good.{Good}
use Rattle.progression.specs.Best.{weighted_band}
use Rattle.second_plan.specs.declared.answer.PlanEnd.{PlanEnd}
use Rattle.whole_offsets.specs.Score.{IsBetter}
use Rattle.whole_offsets.specs.declared.answer.OffsetPlan.{OffsetPlan}
use Rattle.whole_plan.specs.Sought.{street_at, IsCeiling}
use Rattle.whole_plan.specs.Sets.{IsOffsetSet, HasNoOffsetSet}
use Rattle.whole_plan.specs.declared.choosing.SoFar.{SoFar}
use Rattle.whole_plan.specs.declared.choosing.SoFar.TheVariants.{Nothing, Ended, Broken, Chosen}

-- No plan of this cycle is wider than is allowed: no good timing of it is; or its plan isn't good, or no wider; or it has no set.
abbrev pub IsPassed : Street → (ℚ → Type 0) → ℕ → Type 0
IsPassed a Allowed k = (bound : Option ℚ) × (IsCeiling (street_at a k) bound × IfSome bound Allowed)

abbrev pub IsNoWider : Street → Option TimingRecord → (ℚ → Type 0) → ℕ → Type 0
IsNoWider a given Allowed k =
    IsPassed a Allowed k
    ⊎ ((q : OffsetPlan) × (IsOffsetSet a given k q × (Good a q.timing → Allowed (weighted_band a q.timing))))
    ⊎ ((e : PlanEnd) × HasNoOffsetSet a given k e)

-- a good plan, wider than all of the cycles before it, and no less wide than all of those after it
pub record IsChosen (a : Street) (given : Option TimingRecord) (cycles : List ℕ) (k : ℕ) (q : OffsetPlan) : Type 0 where
  pub set : IsOffsetSet a given k q
  pub good : Good a q.timing
  pub before : List ℕ
  pub after : List ℕ
  pub cycles_are : cycles ≡ before ++ k ∷ after
  pub earlier : All (IsNoWider a given (λ x. x <ℚ weighted_band a q.timing)) before
  pub later : All (IsNoWider a given (λ x. x ≤ℚ weighted_band a q.timing)) after

-- where no cycle has a good plan: a best set, and the first rule that its plan breaks
abbrev pub IsNoBetter : Street → Option TimingRecord → OffsetPlan → ℕ → Type 0
IsNoBetter a given q k = ((r : OffsetPlan) × (IsOffsetSet a given k r × ((¬ (r.end ≡ None)) × ¬ IsBetter r.score q.score))) ⊎ ((e : PlanEnd) × HasNoOffsetSet a given k e)

pub record IsBroken (a : Street) (given : Option TimingRecord) (cycles : List ℕ) (k : ℕ) (q : OffsetPlan) (e : PlanEnd) : Type 0 where
  pub set : IsOffsetSet a given k q
  pub breaks : q.end ≡ Some e
  pub among : Contains cycles k
  pub best : All (IsNoBetter a given q) cycles

-- no cycle has a set, the first one for this reason
pub record IsEnded (a : Street) (given : Option TimingRecord) (cycles : List ℕ) (e : PlanEnd) : Type 0 where
  pub k : ℕ
  pub more : List ℕ
  pub cycles_are : cycles ≡ k ∷ more
  pub first : HasNoOffsetSet a given k e
  pub all : All (λ j. (d : PlanEnd) × HasNoOffsetSet a given j d) cycles

-- what came of the cycles so far
abbrev pub IsSoFar : Street → Option TimingRecord → List ℕ → SoFar → Type 0
IsSoFar a given cycles Nothing = cycles ≡ []
IsSoFar a given cycles (Ended e) = IsEnded a given cycles e
IsSoFar a given cycles (Broken c e) = IsBroken a given cycles c.seconds c.plan e
IsSoFar a given cycles (Chosen c) = IsChosen a given cycles c.seconds c.plan

-- what comes with one cycle more
abbrev pub IsNext : Street → Option TimingRecord → ℕ → SoFar → SoFar → Type 0
IsNext a given k before after = (cycles : List ℕ) → IsSoFar a given cycles before → IsSoFar a given (cycles ++ k ∷ []) after
