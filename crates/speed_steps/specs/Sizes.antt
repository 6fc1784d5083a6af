-- The sizes of the two numbers of a step and of a run.
use Rattle.std.specs.Prelude.{ℕ, pos, ◌≤◌, ◌≤ℤ◌, ◌^◌, unsigned_abs}
use Rattle.rational_theory.specs.Rational.{ℚ}

pub record IsStep (step : ℚ) : Type 0 where
  pub least : pos 1 ≤ℤ step.num
  pub num : unsigned_abs step.num ≤ 18
  pub den : step.den ≤ 44

-- as a run between two signals is, and one that was moved
pub record IsRun (run : ℚ) : Type 0 where
  pub least : pos 0 ≤ℤ run.num
  pub num : unsigned_abs run.num ≤ 10 ^ 20
  pub den : run.den ≤ 10 ^ 7
