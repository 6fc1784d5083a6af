-- What is sought among timings of some kind: which are good, and what each is worth; and what it means that one is best.
use Rattle.rational_theory.specs.Rational.{ℚ, ◌≤ℚ◌}

pub record Objective (T : Type 0) : Type 1 where
  pub IsGood : T → Type 0
  pub worth : T → ℚ

-- no good one is worth more than this
abbrev pub BoundedBy : {T : Type 0} → Objective T → ℚ → Type 0
BoundedBy {T} o bound = (s : T) → o.IsGood s → o.worth s ≤ℚ bound

pub record BestOf {T : Type 0} (o : Objective T) (t : T) : Type 0 where
  pub good : o.IsGood t
  pub greatest : BoundedBy o (o.worth t)

abbrev pub NoneOf : {T : Type 0} → Objective T → Type 0
NoneOf {T} o = (s : T) → ¬ o.IsGood s
