-- The best timing so far against a value.
use Rattle.std.specs.Prelude.{Option, Some, None}
use Rattle.rational_theory.specs.Rational.{ℚ, ◌≤ℚ◌, ◌<ℚ◌}
use Rattle.branch_and_bound.specs.declared.incumbent.Incumbent.{Incumbent}

-- a timing stands, and its value is at least v
abbrev pub IsReached : {T : Type 0} → ℚ → Option (Incumbent T) → Type 0
IsReached v None = ⊥
IsReached v (Some best) = v ≤ℚ best.value

-- no timing stands, or its value is at most v
abbrev pub IsUnder : {T : Type 0} → Option (Incumbent T) → ℚ → Type 0
IsUnder None v = Unit {0}
IsUnder (Some best) v = best.value ≤ℚ v

-- no timing stands, or its value is less than v
abbrev pub IsBeaten : {T : Type 0} → Option (Incumbent T) → ℚ → Type 0
IsBeaten None v = Unit {0}
IsBeaten (Some best) v = best.value <ℚ v
